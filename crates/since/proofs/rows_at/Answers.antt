-- `rows_at` meets its contract: right's rows, and then those of the held pairs, are put into nothing; where nothing is asked of left, every row passes.
use Prim.Native.Nat.{ℕ, ◌+◌}
use mathlib.Core.Path.{◌≡◌, refl, sym, ap, subst, ◌∙◌}
use mathlib.Core.List.{List, [], ◌++◌}
use Rattle.meaning.specs.Log.{point}
use Rattle.meaning.specs.Evaluator.{insert, insert_all, set_of}
use Rattle.meaning.specs.declared.Point.{Point}
use Rattle.progress.specs.Stamps.{stamps_of}
use Rattle.meaning.proofs.Rows.{set_of_ascends}
use Rattle.rowset.specs.Sets.{Added, SetMade}
use Rattle.rowset.proofs.Saturation.{in_turn}
use Rattle.rowset.proofs.Growing.{set_made}
use Rattle.room.specs.Room.{sets_of}
use Rattle.since.specs.Since.{held_in, RowsPut}
use Rattle.since.proofs.HeldPairs.{all_pass}
use Rattle.since.proofs.Whole.{rows_whole}
use Rattle.since.proofs.rows_at.Goals as goal

-- right's rows, and then those of the held pairs, make up the whole
whole : {lowest : ℕ} {old mid new : List ℕ} {n k : ℕ} {fresh older rows : List (List ℕ)} → Added lowest old 0 mid n fresh → RowsPut lowest mid n new k older → fresh ++ older ≡ rows → SetMade new k (set_of lowest rows)
whole {lowest} {new = new} {k = k} {fresh = fresh} {older = older} g h e = subst (SetMade new k) (sym (in_turn (insert_all lowest) (λ s x. insert lowest x s) (λ s. refl) (λ s x xs. refl) [] fresh older) ∙ ap (set_of lowest) e) (h.put (set_of lowest fresh) (set_of_ascends lowest fresh) (set_made g))

pub returns-in-Always : goal.returns-in-Always
returns-in-Always c = let a = c.args in
    let of = a.of.now in
    let h = a.held in
    let sets : Point → List (List ℕ) = sets_of a.sets of.left in
    whole c.put_fresh-n.ensures c.put_aged.ensures
    (rows_whole a.asks.left of.left sets (sets_of a.sets of.right) (stamps_of a.retained) a.asks.window (held_in h.ages.now h.values.now) h.start a.i c.grown_by-by.ensures
    (all_pass c.in-Always.is of.left sets h.start (point (a.i.0 + 1))))

pub returns-in_default : goal.returns-in_default
returns-in_default c = let a = c.args in
    let of = a.of.now in
    let h = a.held in
    whole c.put_fresh-n.ensures c.put_older.ensures
    (rows_whole a.asks.left of.left (sets_of a.sets of.left) (sets_of a.sets of.right) (stamps_of a.retained) a.asks.window (held_in h.ages.now h.values.now) h.start a.i c.grown_by-by.ensures refl)
