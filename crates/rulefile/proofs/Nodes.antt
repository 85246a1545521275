-- The nodes weighed one by one, lowest first: what holds after the first x of them, and that a refusal on the way, or none, is what "Check a rule" says.
use Prim.Native.Nat.{ℕ, ◌+◌, ◌-◌, ◌<◌, ◌≤◌}
use native.Mathlib.Omega.{arith}
use mathlib.Core.Path.{◌≡◌, refl, sym, ap, ◌∙◌}
use mathlib.Core.Bool.{Bool, true, false, not}
use mathlib.Core.List.{List, Memᴰ}
use Rattle.std.specs.Prelude.{Result, Ok, Err}
use lib.ListN.{length, get_or, set}
use lib.Seq.{get_or-set_same, get_or-set_other}
use borrow.Author.Count.{below_more}
use Rattle.meaning.specs.Lists.{range}
use Rattle.meaning.specs.Outcome.{Outcome, when, misshapen, window_out, free_broken}
use Rattle.meaning.specs.Formula.{free, free_fits}
use Rattle.meaning.specs.RuleFile.{Accepted, node_count, arity, head_at, body_at, bodies, node_of, node_at, children_of, formula_at, shape_fits, range_fits, mask_of, times_child, weigh_node, weigh_nodes}
use Rattle.meaning.specs.declared.Head.{Head}
use Rattle.meaning.specs.declared.Body.{Body}
use Rattle.meaning.specs.declared.Node.{Node}
use Rattle.meaning.proofs.Tree.{ChildrenLower, formula_step}
use Rattle.ruleshape.specs.Sound.{NodeFits, NodeSound}
use Rattle.ruleshape.proofs.Sound.{node_sound}
use Rattle.rulefree.specs.Mask.{node_mask, node_fits}
use Rattle.rulefree.proofs.Free.{mask_right, fits_right}
use Rattle.rulefile.specs.declared.RuleRefusal.{RuleRefusal}
use Rattle.rulefile.specs.Checked.{refusal_of}
use Rattle.rulefile.specs.Weighing.{weighed_by, weighing, after_nodes, from_nodes, NodesPass}
use Rattle.rulefile.proofs.Ranges.{range_first}

-- the first x nodes pass, their masks are in the list, and the rest are still to be weighed
pub record WeighedTo (b masks : List ℕ) (x : ℕ) : Type 0 where
  pub each : (y : ℕ) → y < x → NodeFits b y
  pub known : (y : ℕ) → y < x → get_or masks y 0 ≡ mask_of (free (formula_at b y))
  pub passed : from_nodes b ≡ weigh_nodes b (range x (node_count b - x)) (after_nodes b)

-- what a weighed node answers, where `rest` follows it
abbrev after : Result ℕ RuleRefusal → Outcome Accepted → Outcome Accepted
after (Ok m) rest = rest
after (Err r) rest = refusal_of r

tests_answer : (s r f g : Bool) (x m : ℕ) (rest : Outcome Accepted) → (s ≡ true → r ≡ true → f ≡ g)
    → when (not s) misshapen x (when (not r) window_out x (when (not g) free_broken x rest)) ≡ after (weighed_by s r f x m) rest
tests_answer true true f g x m rest h = ap (λ t. when (not t) free_broken x rest) (sym (h refl refl)) ∙ go f
  where
    go : (t : Bool) → when (not t) free_broken x rest ≡ after (weighed_by true true t x m) rest
    go true = refl
    go false = refl
tests_answer true false f g x m rest h = refl
tests_answer false r f g x m rest h = refl

tests_pass : (s r f : Bool) (x m k : ℕ) → weighed_by s r f x m ≡ Ok k → (s ≡ true) × (r ≡ true) × (k ≡ m)
tests_pass true true true x m k e = (refl, refl, (cc))
tests_pass true true false x m k e = absurd (let z : ◌≡◌ {A = ℕ} 0 1 = cc in omega arith)
tests_pass true false f x m k e = absurd (let z : ◌≡◌ {A = ℕ} 0 1 = cc in omega arith)
tests_pass false r f x m k e = absurd (let z : ◌≡◌ {A = ℕ} 0 1 = cc in omega arith)

-- node x weighed with the masks of the nodes below it
abbrev pub weighing_at : List ℕ → ℕ → List ℕ → Result ℕ RuleRefusal
weighing_at b x masks = weighing b x (head_at b x) (body_at (bodies b) x) (node_at b x) masks

-- a node that is made of its head and body, and weighed so
pub node_read : (b : List ℕ) (x : ℕ) (masks : List ℕ) (h : Head) (w : Body) (a : ℕ) (n : Node) (v : Result ℕ RuleRefusal) → h ≡ head_at b x → w ≡ body_at (bodies b) x → a ≡ arity b h.left → n ≡ node_of a h w
    → v ≡ weighing b x h w n masks → (n ≡ node_at b x) × (v ≡ weighing_at b x masks)
unfolding node_at
node_read b x masks h w a n v eh ew ea en ev = (cc, cc)

pub weighed_none : (b masks : List ℕ) → WeighedTo b masks 0
weighed_none b masks = record {
  each = λ y l. absurd (omega arith);
  known = λ y l. absurd (omega arith);
  passed = let e : node_count b - 0 ≡ node_count b = omega arith in rw e;
}

-- nodes up to x that pass have lower children
pub children_lower : (b : List ℕ) (x : ℕ) → ((y : ℕ) → y < x + 1 → NodeFits b y) → ChildrenLower b x
children_lower b x each y l c m = (node_sound b y (each y (omega arith))).lower c m

module _ (b masks : List ℕ) (x : ℕ) (w : WeighedTo b masks x) where
  module _ (fits : NodeFits b x) where
    sound : NodeSound x (node_at b x)
    sound = node_sound b x fits

    lower : ChildrenLower b x
    lower = children_lower b x (below_more (NodeFits b) x w.each fits)

    children_known : (c : ℕ) → Memᴰ c (children_of (node_at b x)) → get_or masks c 0 ≡ mask_of (free (formula_at b c))
    children_known c m = w.known c (sound.lower c m)

    node_free : node_fits masks (node_at b x) ≡ free_fits (formula_at b x)
    node_free = fits_right masks (formula_at b) (node_at b x) sound.variables children_known ∙ sym (ap free_fits (formula_step b x lower))

    node_mask_lem : node_mask masks (node_at b x) ≡ mask_of (free (formula_at b x))
    node_mask_lem = mask_right masks (formula_at b) (node_at b x) children_known ∙ sym (ap (λ u. mask_of (free u)) (formula_step b x lower))

  abbrev shape : Bool
  shape = shape_fits b x (head_at b x) (body_at (bodies b) x)

  abbrev window : Bool
  window = range_fits (head_at b x) (body_at (bodies b) x)

  node_answers : (rest : Outcome Accepted) → weigh_node b x rest ≡ after (weighing_at b x masks) rest
  unfolding weigh_node
  node_answers rest =
      tests_answer shape window (node_fits masks (node_at b x)) (free_fits (formula_at b x)) x (node_mask masks (node_at b x)) rest
      (λ s r. node_free (record { shape = s; range = r }))

  -- the nodes from x on, with node x weighed
  nodes_answer : x < node_count b → (v : Result ℕ RuleRefusal) → weighing_at b x masks ≡ v → from_nodes b ≡ after v (weigh_nodes b (range (x + 1) (node_count b - (x + 1))) (after_nodes b))
  nodes_answer l v e =
      w.passed ∙ ap (λ s. weigh_nodes b s (after_nodes b)) (range_first x (node_count b) l)
      ∙ node_answers (weigh_nodes b (range (x + 1) (node_count b - (x + 1))) (after_nodes b))
      ∙ ap (λ u. after u (weigh_nodes b (range (x + 1) (node_count b - (x + 1))) (after_nodes b))) e

  pub node_refused : x < node_count b → (r : RuleRefusal) → weighing_at b x masks ≡ Err r → from_nodes b ≡ refusal_of r
  node_refused l r e = nodes_answer l (Err r) e

  pub weighed_more : x < node_count b → x < length masks → (m : ℕ) → weighing_at b x masks ≡ Ok m → WeighedTo b (set masks x m) (x + 1)
  weighed_more l room m e =
      let t = tests_pass shape window (node_fits masks (node_at b x)) x (node_mask masks (node_at b x)) m e in
      let fits : NodeFits b x = record { shape = t.0; range = t.1 } in
      record {
        each = below_more (NodeFits b) x w.each fits;
        known = below_more (λ y. get_or (set masks x m) y 0 ≡ mask_of (free (formula_at b y))) x
            (λ y k. get_or-set_other masks x y m 0 (omega arith) ∙ w.known y k)
            (get_or-set_same masks x m 0 room ∙ t.2 ∙ node_mask_lem fits);
        passed = nodes_answer l (Ok m) e;
      }

  -- a node that passes has lower children
  pub passing_lower : (m : ℕ) → weighing_at b x masks ≡ Ok m → (s : List ℕ) → s ≡ children_of (node_at b x) → (c : ℕ) → Memᴰ c s → c < x
  passing_lower m e s q c k =
      let t = tests_pass shape window (node_fits masks (node_at b x)) x (node_mask masks (node_at b x)) m e in
      (node_sound b x (record { shape = t.0; range = t.1 })).lower c (rw (← q) k)

pub weighed_all : (b masks uses : List ℕ) (x : ℕ) → 1 ≤ node_count b → x ≡ node_count b → WeighedTo b masks x → ((y : ℕ) → get_or uses y 0 ≡ times_child b y) → NodesPass b masks uses (get_or masks (node_count b - 1) 0)
weighed_all b masks uses x some e w counted = record {
  passed = let z : node_count b - x ≡ 0 = omega arith in w.passed ∙ ap (λ k. weigh_nodes b (range x k) (after_nodes b)) z;
  known = λ y l. w.known y (omega arith);
  counted = counted;
  mask = w.known (node_count b - 1) (omega arith);
}
