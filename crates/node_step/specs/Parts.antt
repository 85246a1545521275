-- The parts of a node's step: its figures and its children's sets, its newly settled points, and what is kept of it.
use Rattle.std.specs.Prelude.{ℕ, ◌+◌, ◌-◌, ◌*◌, ◌≤◌, ◌<◌, min, ◌≡◌, Bool, true, false, List, [], ◌∷◌, ◌++◌, length, get_or, take, drop}
use Rattle.meaning.specs.Log.{point}
use Rattle.meaning.specs.Outcome.{most_rows}
use Rattle.meaning.specs.Formula.{lowest_of}
use Rattle.meaning.specs.RuleFile.{node_count, node_at, children_of}
use Rattle.meaning.specs.Kept.{Entry}
use Rattle.meaning.specs.declared.Point.{Point}
use Rattle.meaning.specs.declared.Node.{Node}
use Rattle.method.specs.Settle.{Inputs, settle}
use Rattle.method.specs.Step.{new_pairs, points_added}
use Rattle.rowset.specs.Rows.{rows_from}
use Rattle.kinds.specs.Kinds.{in_mask, EventThere}
use Rattle.room.specs.Room.{set_in, set_at, SetsInOrder, Sets}
use Rattle.room.specs.declared.Child.{Child}
use Rattle.entries.specs.Appended.{Space, Extended, Pushed}
use Rattle.node_sets.specs.NodeEntries.{set_entries, aged_entries, Spaces}
use Rattle.node_sets.specs.Blocks.{RoomToKeep, EntriesPut}
use Rattle.node_sets.specs.Parts.{Numbered}
use Rattle.since.specs.Since.{held_in}
use Rattle.settling.specs.Inputs.{asked, InputsStand}
use Rattle.node_step.specs.declared.Own.{Own}
use Rattle.node_step.specs.Figures.{mask_in, low_in, before_in, after_in, want_in, begin_in, pairs_in, end_in, node_words}
use Rattle.node_step.specs.Walks.{set_words, block_word, block_in}

-- ---- what is read off the figures

-- the sets of node y, which begin at set first
abbrev pub child_in : List ℕ → ℕ → ℕ → Child
child_in f y first = record { first = first; low = point (low_in f y); count = after_in f y; mask = mask_in f y; lowest = lowest_of (in_mask (mask_in f y)) }

-- node y's figures are there, and its mask fits a byte
pub record FiguresThere (f : List ℕ) (y : ℕ) : Type 0 where
  pub there : y * node_words + node_words ≤ length f
  pub mask : mask_in f y < 256

-- the sets of a node's children, of which there are none, one or two
abbrev pub ChildSetsAre : List ℕ → List ℕ → ℕ → ℕ → Child → Child → Type 0
ChildSetsAre f [] first second left right = Unit
ChildSetsAre f (y ∷ []) first second left right = left ≡ child_in f y first
ChildSetsAre f (y ∷ z ∷ zs) first second left right = (left ≡ child_in f y first) × (right ≡ child_in f z second)

-- a node's own figures
pub record OwnFigures (f : List ℕ) (x : ℕ) (o : Own) : Type 0 where
  pub lowest : o.lowest ≡ lowest_of (in_mask (mask_in f x))
  pub low : o.low.0 ≡ low_in f x
  pub before : o.before ≡ before_in f x
  pub after : o.after ≡ after_in f x
  pub want : o.want.0 ≡ want_in f x
  pub begin : o.begin ≡ begin_in f x
  pub pairs : o.pairs ≡ pairs_in f x
  pub end : o.end ≡ end_in f x

-- the ages of its pairs, among the numbers of all entries
abbrev pub ages_of : List ℕ → Own → List ℕ
ages_of ns o = take (o.end - o.pairs) (drop o.pairs ns)

-- ---- the newly settled points

-- the set of k rows in the words of out stands behind n others, or it has too many rows
pub record SetPushed (out : List ℕ) (k : ℕ) (rows at : List ℕ) (n : ℕ) (rows' at' : List ℕ) (done : Bool) : Type 0 where
  pub stay : Extended rows at rows' at' n 0 (λ q. [])
  pub few : done ≡ true → (k ≤ most_rows) × Pushed rows at rows' at' n (k - 0) (rows_from out 0 (k - 0))
  pub many : done ≡ false → most_rows < k

module _ (b w rows at times : List ℕ) (base : Point) (old_ages old_values : List ℕ) (left right : Child) (n lowest : ℕ) (start i : Point) (node : Node) where
  -- what must stand for point i: n sets, in which it finds what its kind asks for, and room for its set
  pub record NextReady : Type 0 where
    pub asks : asked b w rows at old_ages old_values left right lowest start i node
    pub space : Space rows at n most_rows

  -- the point's set stands behind the others, or it has too many rows
  pub record NextSettled (rows' at' : List ℕ) (done : Bool) : Type 0 where
    pub stay : Extended rows at rows' at' n 0 (λ q. [])
    pub more : done ≡ true → Extended rows at rows' at' n 1 (λ q. set_in rows' at' n)
    pub few : done ≡ true → length (set_in rows' at' n) ≤ most_rows
    pub there : done ≡ true → (v : Inputs) → InputsStand v b w rows at times base left right node → set_in rows' at' n ≡ settle v lowest (held_in old_ages old_values) start i node
    pub crowded : done ≡ false → (v : Inputs) → InputsStand v b w rows at times base left right node → most_rows < length (settle v lowest (held_in old_ages old_values) start i node)

-- the same where node x has no children: it is an atom, to which the event is enough
pub record LeafReady (b w rows at : List ℕ) (x n : ℕ) : Type 0 where
  pub long : length b ≡ 12 + 20 * node_count b
  pub node : x < node_count b
  pub alone : children_of (node_at b x) ≡ []
  pub event : EventThere w
  pub space : points_added w ≡ 1 → Space rows at n most_rows

-- so that its set is the same whatever else stands, and at any point
abbrev pub LeafSettled : ℕ → List ℕ → List ℕ → List ℕ → List ℕ → ℕ → ℕ → List ℕ → List ℕ → Bool → Type 0
LeafSettled lowest b w rows at x n rows' at' done =
    (times : List ℕ) (base : Point) (old_ages old_values : List ℕ) (left right : Child) (start i : Point) → NextSettled b w rows at times base old_ages old_values left right n lowest start i (node_at b x) rows' at' done

-- where a point is added it is settled; where none is, nothing moves
pub record LeafStep (lowest : ℕ) (b w rows at : List ℕ) (x n : ℕ) (rows' at' : List ℕ) (done : Bool) : Type 0 where
  pub one : points_added w ≡ 1 → LeafSettled lowest b w rows at x n rows' at' done
  pub none : points_added w ≡ 0 → (done ≡ true) × (rows' ≡ rows) × (at' ≡ at)

module _ (b w rows at times : List ℕ) (base : Point) (old_ages old_values : List ℕ) (left right : Child) (n lowest : ℕ) (start end : Point) (node : Node) where
  -- a Inputs that say of the node's children what stands in any words whose first n sets are these
  abbrev pub SeesFirst : Inputs → Type 0
  SeesFirst v = (rows' at' : List ℕ) → ((q : ℕ) → q < n → set_in rows' at' q ≡ set_in rows at q) → InputsStand v b w rows' at' times base left right node

  -- what must stand for the points from start on before end: n sets, in which each point finds what its kind asks for, and room for the points' sets
  pub record PointsReady : Type 0 where
    pub sets : Sets rows at n
    pub ordered : start.0 ≤ end.0
    pub small : n + (end.0 - start.0) < 4294967296
    pub asks : (i : Point) → start.0 ≤ i.0 → i.0 < end.0 → (rows' at' : List ℕ) → SetsInOrder rows' at' n → asked b w rows' at' old_ages old_values left right lowest start i node
    pub space : Spaces rows at n (end.0 - start.0) (most_rows * (end.0 - start.0))

  -- the points' sets stand behind the others, or one of the points has too many rows
  pub record PointsSettled (rows' at' : List ℕ) (done : Bool) : Type 0 where
    pub stay : Extended rows at rows' at' n 0 (λ q. [])
    pub more : done ≡ true → Extended rows at rows' at' n (end.0 - start.0) (λ q. set_in rows' at' (n + q))
    pub sets : done ≡ true → Sets rows' at' (n + (end.0 - start.0))
    pub there : done ≡ true → (v : Inputs) → SeesFirst v → (q : ℕ) → q < end.0 - start.0 → set_in rows' at' (n + q) ≡ settle v lowest (held_in old_ages old_values) start (point (start.0 + q)) node
    pub crowded : done ≡ false → (v : Inputs) → SeesFirst v → (i : Point) × (start.0 ≤ i.0) × (i.0 < end.0) × (most_rows < length (settle v lowest (held_in old_ages old_values) start i node))

-- ---- what is kept

module _ (b w rows at times : List ℕ) (base : Point) (old_ages old_values : List ℕ) (left right : Child) (lowest : ℕ) (start end : Point) (node : Node) (on ov : List ℕ) (kept : ℕ) where
  -- what must stand for the pairs at the last of the points from start on before end, or where there is none for the old pairs; by a Inputs that say what stands, they can be counted
  pub record PairsReady : Type 0 where
    pub ordered : start.0 ≤ end.0
    pub asks : start.0 < end.0 → asked b w rows at old_ages old_values left right lowest start (point (end.0 - 1)) node
    pub sight : Inputs
    pub sees : InputsStand sight b w rows at times base left right node
    pub held : length old_ages * 4 ≤ length old_values
    pub room : RoomToKeep on ov kept

  -- the pairs are put behind what is kept
  pub record PairsKept (on' ov' : List ℕ) (kept' : ℕ) : Type 0 where
    pub gives : (v : Inputs) → InputsStand v b w rows at times base left right node → (x : ℕ) → EntriesPut x 1 on ov on' ov' kept kept' (aged_entries x (new_pairs v lowest node start (end.0 - start.0) (held_in old_ages old_values)))

-- node x's entries es are put behind kept others, where there is room, and its words in the table say where
pub record BlockPut (x : ℕ) (on ov bl on' ov' bl' : List ℕ) (kept kept' : ℕ) (es : List Entry) : Type 0 where
  pub on_long : length on' ≡ length on
  pub ov_long : length ov' ≡ length ov
  pub bl_long : length bl' ≡ length bl
  pub counted : kept' ≡ min (length on + 1) (kept + length es)
  pub numbers_below : (j : ℕ) → j < kept → get_or on' j 0 ≡ get_or on j 0
  pub rows_below : (j : ℕ) → j < kept * 4 → get_or ov' j 0 ≡ get_or ov j 0
  pub others : (y : ℕ) → (y ≡ x → ⊥) → (k : ℕ) → k < 3 → block_word bl' y k ≡ block_word bl y k
  pub rows_first : block_word bl' x 0 ≤ block_word bl' x 1
  pub pairs_last : block_word bl' x 1 ≤ block_word bl' x 2
  pub within : block_word bl' x 2 ≤ kept'
  pub there : kept' ≤ length on → block_in on' ov' bl' x ≡ es

-- what must stand for a node's block: its sets from set first on, the numbers of those that were loaded, and what its pairs ask for
pub record BlockReady (b w rows at times : List ℕ) (base : Point) (ns old_values : List ℕ) (left right : Child) (first : ℕ) (o : Own) (node : Node) (on ov bl : List ℕ) (x kept : ℕ) : Type 0 where
  pub low_want : o.low.0 ≤ o.want.0
  pub want_after : o.want.0 ≤ o.after
  pub small : o.after < 4294967296
  pub laid : SetsInOrder rows at (first + (o.after - o.low.0))
  pub numbered : Numbered at first (o.before - o.low.0) o.low.0 ns o.begin
  pub pairs_end : o.pairs ≤ o.end
  pub end_there : o.end ≤ length ns
  pub pairs : PairsReady b w rows at times base (ages_of ns o) old_values left right o.lowest (point o.before) (point o.after) node on ov kept
  pub table : set_words + x * 3 + 3 ≤ length bl

-- its rows at the points that are wanted, and then its pairs, are its block
pub record BlockKept (b w rows at times : List ℕ) (base : Point) (old_ages old_values : List ℕ) (left right : Child) (first : ℕ) (o : Own) (node : Node) (on ov bl : List ℕ) (x kept : ℕ) (on' ov' bl' : List ℕ) (kept' : ℕ) : Type 0 where
  pub gives : (v : Inputs) → InputsStand v b w rows at times base left right node
      → BlockPut x on ov bl on' ov' bl' kept kept' (set_entries x (set_at rows at first o.low) o.want (o.after - o.want.0) ++ aged_entries x (new_pairs v o.lowest node (point o.before) (o.after - o.before) (held_in old_ages old_values)))
