-- Sets that stand and room behind them, what is kept, and the walk of a tree put together from its children's walks and its node's own step.
use Prim.Native.Nat.{ℕ, ◌+◌, ◌≤◌, ◌<◌}
use native.Mathlib.Omega.{arith}
use mathlib.Core.Path.{◌≡◌, refl, ◌∙◌}
use mathlib.Core.Bool.{Bool, true, false, cond}
use mathlib.Core.Logic.{◌⊎◌, inl, inr}
use mathlib.Core.List.{List}
use lib.ListN.{length, get_or}
use lib.Dec.{eqb}
use borrow.Author.Tests.{ne_eqb}
use Rattle.room.specs.Room.{Sets}
use Rattle.room.proofs.SetsInOrder.{laid_fewer}
use Rattle.entries.specs.Appended.{Extended}
use Rattle.method.specs.Stored.{Stored}
use Rattle.method.specs.Step.{crowded_now}
use Rattle.method.specs.Room.{sets_most}
use Rattle.node_step.specs.declared.Place.{Place}
use Rattle.node_step.specs.Walks.{RoomFor, OutThere, BlockStands, standing, Keeps, Walks}

-- ---- sets that stay

pub sets_fewer : {rows at : List ℕ} {n : ℕ} → Sets rows at n → (k : ℕ) → k ≤ n → Sets rows at k
sets_fewer s k l = record { laid = laid_fewer s.laid k l; few = λ q o. s.few q (omega arith) }

module _ {rows at rows' at' : List ℕ} {h m : ℕ} {F : ℕ → List (List ℕ)} (e : Extended rows at rows' at' h m F) where
  -- the new ones forgotten, and more below them
  pub stays_below : (k : ℕ) {G : ℕ → List (List ℕ)} → k ≤ h → Extended rows at rows' at' k 0 G
  stays_below k l =
      let f : k + 0 ≡ k = omega arith in
      record {
        rows_long = e.rows_long;
        at_long = e.at_long;
        laid = rw f (laid_fewer e.laid k (omega arith));
        marks = λ q o. e.marks q (omega arith);
        earlier = λ q o. e.earlier q (omega arith);
        sets = λ q o. absurd (omega arith);
      }

  -- others put in their place
  pub replaced : {rows'' at'' : List ℕ} {k : ℕ} {G : ℕ → List (List ℕ)} → Extended rows' at' rows'' at'' h k G → Extended rows at rows'' at'' h k G
  replaced g =
      record {
        rows_long = g.rows_long ∙ e.rows_long;
        at_long = g.at_long ∙ e.at_long;
        laid = g.laid;
        marks = λ q o. g.marks q o ∙ e.marks q o;
        earlier = λ q o. g.earlier q o ∙ e.earlier q o;
        sets = g.sets;
      }

-- ---- room

module _ {rows at : List ℕ} {h sets more : ℕ} (r : RoomFor rows at h sets more) where
  pub room_less : {sets' more' : ℕ} → sets' ≤ sets → more' ≤ more → RoomFor rows at h sets' more'
  room_less l m = record { stand = r.stand; marks = omega (arith, r.marks); words = omega (arith, r.words); small = omega (arith, r.small); few = omega (arith, r.few) }

  -- d sets made, of at most e rows, and as much room less
  pub room_left : (d e : ℕ) {rows' at' : List ℕ} {sets' more' : ℕ} {F : ℕ → List (List ℕ)} → Extended rows at rows' at' h d F → Sets rows' at' (h + d) → get_or at' (h + d) 0 ≤ get_or at h 0 + e
      → d + sets' ≤ sets → e + more' ≤ more → RoomFor rows' at' (h + d) sets' more'
  room_left d e x s o l m =
      record {
        stand = s;
        marks = omega (arith, r.marks, x.at_long);
        words = omega (arith, r.words, x.rows_long);
        small = omega (arith, r.small);
        few = omega (arith, r.few);
      }

pub some_most : (t : Bool) (n : ℕ) → cond t n 0 ≤ n
some_most true n = omega arith
some_most false n = omega arith

module _ (s : Stored) (w : List ℕ) where
  -- where no node is crowded all sets stand
  pub stands_all : (low x : ℕ) → low ≡ 32 → standing s w low x ≡ sets_most s w x
  stands_all low x e = rw e refl

module _ {s : Stored} {w : List ℕ} where
  pub out_as : {on ov bl on' ov' bl' : List ℕ} {kept kept' : ℕ} → OutThere s w on ov bl kept → length on' ≡ length on → length ov' ≡ length ov → length bl' ≡ length bl → kept' ≤ length on + 1 → OutThere s w on' ov' bl' kept'
  out_as o p q r l = record { few = omega (arith, o.few); rows = omega (arith, o.rows); table = omega (arith, o.table); counted = omega arith }

  -- ---- what is kept

  pub keeps_as : {P Q : ℕ → Type 0} {W X : ℕ} {on ov bl on' ov' bl' : List ℕ} {k k' : ℕ}
      → Keeps s w P W on ov bl on' ov' bl' k k' → ((y : ℕ) → Q y → P y) → W ≡ X → Keeps s w Q X on ov bl on' ov' bl' k k'
  keeps_as g f e = record { counted = omega (arith, g.counted); stay = g.stay; new = λ l y q. g.new l y (f y q) }

  pub keeps_then : {P Q : ℕ → Type 0} {W X : ℕ} {on ov bl on' ov' bl' on'' ov'' bl'' : List ℕ} {k k' k'' : ℕ}
      → Keeps s w P W on ov bl on' ov' bl' k k' → length on' ≡ length on → Keeps s w Q X on' ov' bl' on'' ov'' bl'' k' k''
      → Keeps s w (λ y. P y ⊎ Q y) (W + X) on ov bl on'' ov'' bl'' k k''
  keeps_then {P} {Q} {on = on} {on'' = on''} {ov'' = ov''} {bl'' = bl''} {k' = k'} {k'' = k''} g e h =
      record {
        counted = omega (arith, g.counted, h.counted);
        stay = λ l y t. h.stay (omega arith) y (g.stay (first l) y t);
        new = λ l y p. go l y p;
      }
    where
      first : k'' ≤ length on → k' ≤ length on
      first l = omega (arith, g.counted, h.counted)

      go : k'' ≤ length on → (y : ℕ) → P y ⊎ Q y → BlockStands s w on'' ov'' bl'' k'' y
      go l y (inl p) = h.stay (omega arith) y (g.new (first l) y p)
      go l y (inr q) = h.new (omega arith) y q

  -- ---- the node's own step after its children's walks

  module _ {P Q : ℕ → Type 0} {W X x h m : ℕ} {F : ℕ → List (List ℕ)} {rows at rows' at' on ov bl on' ov' bl' : List ℕ} {kept k : ℕ}
      (e : Extended rows at rows' at' h m F) (g : Keeps s w P W on ov bl on' ov' bl' kept k) (calm : (y : ℕ) → P y → crowded_now s w y ≡ false)
      (on_long : length on' ≡ length on) (ov_long : length ov' ≡ length ov) (bl_long : length bl' ≡ length bl) where
    pub walks_then : {R : ℕ → Type 0} {Y : ℕ} {rows'' at'' on'' ov'' bl'' : List ℕ} {r : Place} → Walks s w Q X x h rows' at' rows'' at'' on' ov' bl' on'' ov'' bl'' k r
        → ((y : ℕ) → R y → P y ⊎ Q y) → W + X ≡ Y → Walks s w R Y x h rows at rows'' at'' on ov bl on'' ov'' bl'' kept r
    walks_then {R} {r = r} v f u =
        record {
          more = replaced e v.more;
          stand = v.stand;
          row_end = omega (arith, v.row_end, e.marks h (omega arith));
          low = v.low;
          inside = v.inside;
          told = v.told;
          calm = λ y p l. go y (f y p) l;
          few = omega (arith, v.few);
          on_long = v.on_long ∙ on_long;
          ov_long = v.ov_long ∙ ov_long;
          bl_long = v.bl_long ∙ bl_long;
          keeps = λ o. keeps_as (keeps_then g on_long (v.keeps o)) f u;
        }
      where
        go : (y : ℕ) → P y ⊎ Q y → y < r.low → crowded_now s w y ≡ false
        go y (inl p) l = calm y p
        go y (inr q) l = v.calm y q l

  -- ---- a crowded node among those walked

  pub walks_stuck : {P : ℕ → Type 0} {W x h m n : ℕ} {F : ℕ → List (List ℕ)} {rows at rows' at' on ov bl on' ov' bl' : List ℕ} {kept : ℕ} {r : Place}
      → Extended rows at rows' at' h m F → Sets rows' at' n → h ≤ n → r.low < 32 → r.low ≤ x → crowded_now s w r.low ≡ true
      → ((y : ℕ) → P y → y < r.low → crowded_now s w y ≡ false) → r.kept ≤ length on + 1
      → length on' ≡ length on → length ov' ≡ length ov → length bl' ≡ length bl
      → Walks s w P W x h rows at rows' at' on ov bl on' ov' bl' kept r
  walks_stuck {x = x} {h = h} {r = r} e st hn l i t c f p q u =
      let d : eqb r.low 32 ≡ false = ne_eqb r.low 32 (omega arith) in
      let z : h + 0 ≡ h = omega arith in
      record {
        more = rw d (stays_below e h (omega arith));
        stand = rw (d, z) (sets_fewer st h hn);
        row_end = rw (d, z) (omega (arith, e.marks h (omega arith)));
        low = omega arith;
        inside = λ _. i;
        told = λ _. t;
        calm = c;
        few = f;
        on_long = p;
        ov_long = q;
        bl_long = u;
        keeps = λ o. absurd (omega arith);
      }
