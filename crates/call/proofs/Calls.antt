-- A call from what is ready on: what the walk over the tree leaves is weighed, reported and stored as the method says, and the largest room is enough for it.
use Prim.Native.Nat.{ℕ, zero, suc, ◌+◌, ◌-◌, ◌*◌, ◌≤◌, ◌<◌, min}
use native.Mathlib.Nat.{eq-or-lt_of_le, zero-add, add-zero}
use native.Mathlib.Omega.{arith}
use mathlib.Core.Path.{◌≡◌, refl, sym, ◌∙◌, ap, ap₂}
use mathlib.Core.Bool.{Bool, true, false}
use mathlib.Core.Logic.{◌⊎◌, inl, inr}
use mathlib.Core.List.{List, [], ◌∷◌, ◌++◌, map}
use lib.ListN.{length, get_or, take, drop, length-append}
use lib.Dec.{ltb}
use borrow.Author.Tests.{lt-ltb, ltb-true, ltb-false}
use Rattle.meaning.specs.Lists.{range, select, gather}
use Rattle.meaning.specs.Outcome.{Outcome, refused, given, when, crowded, most_kept}
use Rattle.meaning.specs.Log.{point, points_from}
use Rattle.meaning.specs.Formula.{free, variables}
use Rattle.meaning.specs.RuleFile.{Accepted, checking, node_count, last_node, pattern}
use Rattle.meaning.specs.Report.{Reported, report_words}
use Rattle.meaning.specs.Keeper.{report_row, weigh_crowds, weighed, buffer_after}
use Rattle.meaning.specs.declared.Point.{Point}
use Rattle.meaning.specs.declared.Stamp.{Stamp}
use Rattle.meaning.proofs.Points.{Tested, passed, failed, tested}
use Rattle.meaning.proofs.Accepted.{accepted, nodes_most, last_is_node}
use Rattle.meaning.specs.declared.LogEnd.{LogEnd}
use Rattle.method.specs.Stored.{Stored, base_of, stamp_in}
use Rattle.method.specs.Settle.{Turn, rows_of_turn}
use Rattle.method.specs.Step.{points_added, wanted_from, count_before, count_after, stamps_now, turn_of, turn, entries_now, stored_now, crowded_now, report_now}
use Rattle.method.specs.WellFormed.{Formed}
use Rattle.method.specs.Room.{rows_needed, marks_needed}
use Rattle.method.proofs.Bounds.{before_after, after_most, new_few, wanted_before}
use Rattle.method.proofs.Turns.{map_points, turns_at}
use Rattle.kinds.specs.Kinds.{in_mask}
use Rattle.room.specs.Room.{set_in, set_at}
use Rattle.writer.specs.Words.{reported_from, words, Reportable}
use Rattle.writer.proofs.Reports.{reportable}
use Rattle.limits.specs.declared.Refusal.{Refusal}
use Rattle.limits.specs.declared.Refusal.TheVariants.{Crowded}
use Rattle.limits.specs.declared.Written.{Written}
use Rattle.std.specs.Prelude.{Result, Ok, Err}
use Rattle.limits.specs.Weighs.{weighed_of, after_crowds, Weighs}
use Rattle.limits.proofs.Weighing.{words_few, not_written}
use Rattle.node_step.specs.declared.Place.{Place}
use Rattle.node_step.specs.Figures.{called, CallReady, NodeFigures, before_in, after_in, low_in, mask_in}
use Rattle.node_step.specs.Walks.{set_words, block_in, OutThere, Walked}
use Rattle.call.specs.Stores.{EntriesStored, Storable}
use Rattle.call.specs.Blocks.{last_points, LastReady}
use Rattle.call.specs.Settles.{call_in, ReadyIn, RoomToKeep, weighed_now, SettledCall}

pub either_way : {A B C : Type 0} → (A → C) → (B → C) → A ⊎ B → C
either_way f g (inl x) = f x
either_way f g (inr y) = g y

-- ---- the crowded nodes

crowd_first : (f : ℕ → Bool) (a n x : ℕ) (rest : Outcome ℕ) → a ≤ x → x < a + n → ((y : ℕ) → a ≤ y → y < x → f y ≡ false) → f x ≡ true → weigh_crowds f (range a n) rest ≡ refused crowded x
crowd_first f a zero x rest u o lower e = absurd (omega arith)
crowd_first f a (suc n) x rest u o lower e = go (eq-or-lt_of_le u) (λ v. crowd_first f (suc a) n x rest v (omega arith) (λ y p q. lower y (omega arith) q) e)
  where
    go : (a ≡ x) ⊎ (a < x) → (a < x → weigh_crowds f (range (suc a) n) rest ≡ refused crowded x) → when (f a) crowded a (weigh_crowds f (range (suc a) n) rest) ≡ refused crowded x
    go (inl d) more = rw (d, e)
    go (inr v) more = rw (lower a (omega arith) v) (more v)

crowds_none : (f : ℕ → Bool) (a n : ℕ) (rest : Outcome ℕ) → ((y : ℕ) → a ≤ y → y < a + n → f y ≡ false) → weigh_crowds f (range a n) rest ≡ rest
crowds_none f a zero rest calm = refl
crowds_none f a (suc n) rest calm = rw (calm a (omega arith) (omega arith)) (crowds_none f (suc a) n rest (λ y u o. calm y (omega arith) (omega arith)))

-- ---- rows by a mask

-- a mask that has the same variables counts and shows the same
module _ (f g : ℕ → Bool) (same : (x : ℕ) → x < 4 → f x ≡ g x) where
  count_same : length (select f variables) ≡ length (select g variables)
  count_same = rw (same 0 (omega arith), same 1 (omega arith), same 2 (omega arith), same 3 (omega arith))

  shown_same : (u : List ℕ) → report_row f u ≡ report_row g u
  shown_same u = rw (same 0 (omega arith), same 1 (omega arith), same 2 (omega arith), same 3 (omega arith))

map_alike : {A B : Type 0} (f g : A → B) → ((x : A) → f x ≡ g x) → (xs : List A) → map f xs ≡ map g xs
map_alike f g h [] = refl
map_alike f g h (x ∷ xs) = ap₂ (λ y ys. y ∷ ys) (h x) (map_alike f g h xs)

gather_alike : {B : Type 0} (f g : ℕ → List B) (a n : ℕ) → ((y : ℕ) → a ≤ y → y < a + n → f y ≡ g y) → gather f (range a n) ≡ gather g (range a n)
gather_alike f g a zero h = refl
gather_alike f g a (suc n) h = ap₂ (λ us vs. us ++ vs) (h a (omega arith) (omega arith)) (gather_alike f g (suc a) n (λ y u o. h y (omega arith) (omega arith)))

-- ---- entries counted up to one more than there is room for

-- more than 512 are kept where more are counted: room for fewer was enough, or there was room for 512
over_same : (room kept len : ℕ) → kept ≡ min (room + 1) len → (most_kept ≤ room) ⊎ (kept ≤ room) → ltb most_kept kept ≡ ltb most_kept len
over_same room kept len e (inr u) =
    let d : kept ≡ len = omega arith in
    ap (ltb most_kept) d
over_same room kept len e (inl u) = go (tested (ltb most_kept len))
  where
    go : Tested (ltb most_kept len) → ltb most_kept kept ≡ ltb most_kept len
    go (passed t) = lt-ltb most_kept kept (omega (arith, ltb-true most_kept len t)) ∙ sym t
    go (failed t) =
        let d : kept ≡ len = omega (arith, ltb-false most_kept len t) in
        ap (ltb most_kept) d

-- what 14 to 16 answer is the same then
after_same : {u u' n n' : ℕ} (k k' room : ℕ) → u ≡ u' → ltb most_kept k ≡ ltb most_kept k' → n ≡ n' → after_crowds u k n room ≡ after_crowds u' k' n' room
after_same k k' room d e f = rw (d, e, f)

-- the first words of a list as a part
pub part_first : (ws : List ℕ) (n : ℕ) → take (n - 0) (drop 0 ws) ≡ take n ws
part_first ws n =
    let e : n - 0 ≡ n = omega arith in
    rw e

-- the first figure of a node
pub first_figure : (f : List ℕ) (x : ℕ) → get_or f (x * 9) 0 ≡ mask_in f x
first_figure f x = ap (λ i. get_or f i 0) (sym (add-zero (x * 9)))

-- ---- a call that is ready

module _ {b : List ℕ} {log : LogEnd} {stamps os ns vs : List ℕ} {count : ℕ} {w f : List ℕ} (h : ReadyIn b log stamps os ns vs count w f) where
  abbrev s : Stored
  s = call_in b log stamps os ns vs count

  abbrev x : ℕ
  x = last_node b

  abbrev formed : Formed s
  formed = h.ready.formed

  abbrev a : Accepted
  a = formed.accepted.0

  abbrev ok : checking b ≡ given a
  ok = formed.accepted.1

  last_node_lem : x < node_count b
  last_node_lem = last_is_node b a ok

  figures : NodeFigures s w (take count os) (take count ns) (take (count * 4) vs) f x
  figures = h.ready.each x last_node_lem

  pub nodes_few : node_count b ≤ 32
  nodes_few = nodes_most b a ok

  pub rule_long : 2 < length b
  rule_long = omega (arith, (accepted b a ok).long)

  -- what the walk asks, where the entries that it is given are the first of the words
  pub walk_asks : {os' ns' vs' : List ℕ} (rows at on ov bl : List ℕ) → os' ≡ take count os → ns' ≡ take count ns → vs' ≡ take (count * 4) vs
      → (rows_needed s w * 4 ≤ length rows) × (marks_needed s w < length at)
      → RoomToKeep b on ov bl
      → CallReady (called b log stamps os' ns' vs') w os' ns' vs' stamps f
      × (((rows_needed (called b log stamps os' ns' vs') w * 4 ≤ length rows) × (marks_needed (called b log stamps os' ns' vs') w < length at))
      × OutThere (called b log stamps os' ns' vs') w on ov bl 0)
  walk_asks rows at on ov bl d e g room out = rw (d, e, g) (h.ready, (room, record { few = out.0; rows = out.1; table = out.2; counted = omega arith }))

  -- what it leaves then
  pub walked_is : {os' ns' vs' rows at on ov bl : List ℕ} {room : ℕ} {r : Place} → os' ≡ take count os → ns' ≡ take count ns → vs' ≡ take (count * 4) vs
      → Walked (called b log stamps os' ns' vs') w rows at on ov bl room r → Walked s w rows at on ov bl room r
  walked_is d e g t = rw (d, e, g) at t

  -- a call that is tried again, where every word is as it was
  module _ {os' ns' vs' : List ℕ} (d : os' ≡ os) (e : ns' ≡ ns) (g : vs' ≡ vs) where
    pub again_ready : ReadyIn b log stamps os' ns' vs' count w f
    again_ready = rw (d, e, g) h

    pub again_so : (P : Stored → Type 0) → P s → P (call_in b log stamps os' ns' vs' count)
    again_so P u = rw (d, e, g) u

    pub again_settled : {buffer buffer₁ buffer₂ os₂ ns₂ vs₂ : List ℕ} {r : Result Written Refusal} → buffer₁ ≡ buffer → SettledCall (call_in b log stamps os' ns' vs' count) w buffer₁ buffer₂ os' ns' vs' os₂ ns₂ vs₂ r
        → SettledCall s w buffer buffer₂ os ns vs os₂ ns₂ vs₂ r
    again_settled k u = rw (k, d, e, g) at u

  pub stamps_long : length stamps ≡ length s.times + 1
  stamps_long = ap length h.ready.stamps_are_now ∙ length-append s.times (get_or w 0 0 ∷ [])

  -- the base of the stamps is that of the state
  base_is : log.points + 1 - length stamps ≡ (base_of s).0
  base_is = omega (arith, stamps_long)

  stamps_are : stamp_in (point (log.points + 1 - length stamps)) stamps ≡ stamps_now s w
  unfolding stamps_now
  stamps_are = ap₂ stamp_in (ap point base_is) h.ready.stamps_are_now

  grown : count_before s x ≤ count_after s w x
  grown = before_after s a ok formed.few_times formed.times_many w x last_node_lem

  settled : count_after s w x ≤ log.points + points_added w
  settled = after_most s a ok formed.few_times formed.times_many w x last_node_lem

  low_before : (wanted_from b (count_before s) x).0 ≤ count_before s x
  low_before = wanted_before s a ok formed.few_times formed.times_many x

  module _ {rows at on ov bl : List ℕ} {room : ℕ} {r : Place} (t : Walked s w rows at on ov bl room r) where
    -- a node is crowded
    pub crowded_settles : {buffer : List ℕ} → r.low < 32 → SettledCall s w buffer buffer os ns vs os ns vs (Err (Crowded r.low))
    unfolding weighed_now weighed
    crowded_settles u =
        record {
          outcome = sym (crowd_first (crowded_now s w) 0 (node_count b) r.low _ (omega arith) (omega (arith, (t.told u).0)) (λ y v o. t.calm y (omega (arith, (t.told u).0)) o) (t.told u).1);
          written = refl;
          stored = λ v d. not_written d;
          stays = λ e d. (refl, refl, refl);
        }

    module _ (none : r.low ≡ 32) where
      pub last_ready : LastReady b f log.points w stamps rows at
      last_ready =
          let i : last_node b < node_count b = last_node_lem in
          let sets : Reportable rows at (last_points b f log.points stamps)
          = reportable (omega (arith, figures.low, figures.before, low_before)) (t.stand none).laid (omega (arith, figures.low, figures.before, figures.after, low_before, grown)) (omega (arith, figures.before, figures.after, grown, settled, h.ready.not_full)) in
          record {
            byte = rule_long;
            some = omega arith;
            nodes = nodes_few;
            figures_there = h.ready.figures_there;
            grown = omega (arith, figures.before, figures.after, grown);
            settled = omega (arith, figures.after, settled);
            not_full = h.ready.not_full;
            retained = omega (arith, stamps_long, formed.times_many);
            mask_small = figures.mask_small;
            sets = sets;
            few_words = words_few sets (λ q u o. (t.stand none).few q (omega (arith, figures.low, figures.before, figures.after, low_before, grown)))
                (omega (arith, figures.before, figures.after, new_few s a ok formed.few_times formed.times_many w x last_node_lem)) stamps;
          }

      -- the turn's first point is the node's
      turn_low : (turn s w x).low ≡ wanted_from b (count_before s) x
      unfolding turn turn_of
      turn_low = ap (λ (q : Turn). q.low) (turns_at b s.entries (stamps_now s w) (count_before s) (count_after s w) _ (node_count b) x last_node_lem)

      -- a set that is reported is the turn's
      set_is : (j : Point) → count_before s x ≤ j.0 → j.0 < count_before s x + (count_after s w x - count_before s x) → set_at rows at 0 (point (low_in f x)) j ≡ rows_of_turn (turn s w x) j
      set_is j u o =
          ap (λ k. set_in rows at k) (zero-add (j.0 - low_in f x))
          ∙ t.there none (j.0 - low_in f x) (omega (arith, figures.low, low_before, grown))
          ∙ ap (λ k. get_or (turn s w x).rows (j.0 - k) []) (figures.low ∙ ap (λ (p : Point). p.0) (sym turn_low))

      reported_at : (Point → Stamp) → (List ℕ → List ℕ) → (Point → List (List ℕ)) → Point → Reported
      reported_at τ show sets j = record { at = j; time = τ j; rows = map show (sets j) }

      points_are : points_from (point (before_in f x)) (after_in f x - before_in f x) ≡ points_from (point (count_before s x)) (count_after s w x - count_before s x)
      points_are = rw (figures.before, figures.after)

      pub report_same : words rows at stamps (last_points b f log.points stamps) ≡ report_now s w
      unfolding words reported_from report_now reported_at
      report_same =
          ap₂ report_words (count_same (in_mask (mask_in f x)) (free (pattern b)) figures.mask)
          (ap (map (reported_at (stamp_in (point (log.points + 1 - length stamps)) stamps) (report_row (in_mask (mask_in f x))) (set_at rows at 0 (point (low_in f x))))) points_are
          ∙ map_points _ _ (count_before s x) (count_after s w x - count_before s x)
          (λ j u o.
          ap₂ (λ τ us. record { at = j; time = τ j; rows = us }) stamps_are
          (map_alike _ _ (shown_same (in_mask (mask_in f x)) (free (pattern b)) figures.mask) (set_at rows at 0 (point (low_in f x)) j) ∙ ap (map (report_row (free (pattern b)))) (set_is j u o))))

      -- the entries of all blocks are those that are kept
      pub blocks_are : r.kept ≤ room → gather (block_in on ov bl) (range 0 (node_count b)) ≡ (stored_now s w).entries
      unfolding stored_now
      blocks_are u = gather_alike (block_in on ov bl) (entries_now s w) 0 (node_count b) (λ y v o. (t.blocks none u y (omega arith)).there)

      kept_all : r.kept ≤ room → r.kept ≡ length (stored_now s w).entries
      kept_all u = omega (arith, t.counted none)

      pub storable : r.kept ≤ room → r.kept ≤ most_kept → length on * 4 ≤ length ov → set_words + node_count b * 3 ≤ length bl → Storable on ov bl (node_count b) os ns vs
      storable u v wide table =
          let l : length (gather (block_in on ov bl) (range 0 (node_count b))) ≤ 512 = omega (arith, ap length (blocks_are u), kept_all u) in
          record {
            nodes = nodes_few;
            table = table;
            rows_first = λ y o. (t.blocks none u y o).rows_first;
            pairs_last = λ y o. (t.blocks none u y o).pairs_last;
            numbers_are_there = λ y o. omega (arith, (t.blocks none u y o).within, t.on_long);
            rows_there = λ y o. omega (arith, (t.blocks none u y o).within, t.on_long);
            owners_room = omega (arith, l, h.owners_long);
            numbers_room = omega (arith, l, h.numbers_long);
            values_room = omega (arith, l, h.values_are_long);
          }

      -- the last node's report weighed
      abbrev WeighsLast : List ℕ → List ℕ → Result Written Refusal → Type 0
      WeighsLast = Weighs (log.points + points_added w - after_in f x) r.kept (words rows at stamps (last_points b f log.points stamps))

      module _ (enough : (most_kept ≤ room) ⊎ (r.kept ≤ room)) {buffer buffer' : List ℕ} where
        outcome_so : {q : Result Written Refusal} → WeighsLast buffer buffer' q → weighed_of q ≡ weighed_now s w (length buffer)
        unfolding weighed_now weighed
        outcome_so g =
            g.outcome ∙ after_same r.kept (length (stored_now s w).entries) (length buffer) (ap (λ k. log.points + points_added w - k) figures.after) (over_same room r.kept (length (stored_now s w).entries) (t.counted none) enough) (ap length report_same)
            ∙ sym (crowds_none (crowded_now s w) 0 (node_count b) _ (λ y u o. t.calm y (omega arith) (omega (arith, nodes_few))))

        written_so : {q : Result Written Refusal} → WeighsLast buffer buffer' q → buffer' ≡ buffer_after (weighed_of q) (report_now s w) buffer
        written_so g = rw report_same at g.written

        pub refused_settles : {e : Refusal} → WeighsLast buffer buffer' (Err e) → SettledCall s w buffer buffer' os ns vs os ns vs (Err e)
        refused_settles g = record { outcome = outcome_so g; written = written_so g; stored = λ v d. not_written d; stays = λ e d. (refl, refl, refl) }

        pub written_fits : {v : Written} → WeighsLast buffer buffer' (Ok v) → (r.kept ≤ room) × (r.kept ≤ most_kept)
        written_fits {v} g =
            let u : r.kept ≤ most_kept = (g.kept v refl).1 in
            (either_way (λ m. omega arith) (λ m. m) enough, u)

        pub written_settles : {v : Written} {os' ns' vs' : List ℕ} → WeighsLast buffer buffer' (Ok v) → EntriesStored os ns vs os' ns' vs' (gather (block_in on ov bl) (range 0 (node_count b))) → SettledCall s w buffer buffer' os ns vs os' ns' vs' (Ok v)
        written_settles g stored =
            let u : r.kept ≤ room = (written_fits g).0 in
            record {
              outcome = outcome_so g;
              written = written_so g;
              stored = λ v d. let q = g.kept v d in (q.0 ∙ kept_all u, omega (arith, q.0, q.1), rw (blocks_are u) at stored);
              stays = λ e d. not_written (sym d);
            }
