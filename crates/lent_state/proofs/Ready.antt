-- From a well-formed state and the table of a call to what the walk asks, and from what it leaves to what the method says.
use Prim.Native.Nat.{ℕ, ◌+◌, ◌-◌, ◌*◌, ◌≤◌, ◌<◌}
use native.Mathlib.Omega.{arith}
use mathlib.Core.Path.{◌≡◌, refl, sym, ◌∙◌, ap, ap₂, subst}
use mathlib.Core.Bool.{Bool, true, false, cond}
use mathlib.Core.List.{List, [], ◌∷◌, ◌++◌, append-nil}
use lib.ListN.{length, get_or, take, drop, length-append, length-drop}
use lib.Seq.{length-take-le, get_or-take, take-take, take-append_seam}
use Rattle.meaning.specs.Log.{points_from}
use Rattle.meaning.specs.Lists.{gather}
use Rattle.meaning.specs.Outcome.{most_points}
use lib.Dec.{ltb}
use Rattle.meaning.specs.RuleFile.{node_count, last_node, one_if}
use Rattle.meaning.specs.Kept.{entry_of}
use Rattle.meaning.specs.Keeper.{buffer_after}
use Rattle.meaning.specs.declared.Point.{Point}
use Rattle.meaning.specs.declared.LogEnd.{LogEnd}
use Rattle.meaning.proofs.Accepted.{nodes_most, last_is_node}
use Rattle.method.specs.Stored.{Stored, held, first_retained}
use Rattle.method.specs.Step.{points_added, times_added, wanted_from, counts_stored, count_before, stamps_now, counts_after, count_after, stored_now, report_now}
use Rattle.method.specs.Room.{rows_most, rows_needed}
use Rattle.method.specs.WellFormed.{Formed}
use Rattle.method.proofs.Room.{entries_rows}
use Rattle.kinds.specs.Kinds.{in_mask, EventThere}
use Rattle.entries.specs.Entries.{entry_at, entries_from, EntriesWithin}
use Rattle.entries.specs.Appended.{at_front}
use Rattle.entries.proofs.Listed.{listed_same}
use Rattle.formed.specs.StateFigures.{stored_in, StateFigures, EntryPlaces}
use Rattle.limits.specs.declared.Refusal.{Refusal}
use Rattle.limits.specs.declared.Written.{Written}
use Rattle.std.specs.Prelude.{Result}
use Rattle.node_step.specs.Figures.{begin_in, pairs_in, end_in, NodeFigures, CallReady}
use Rattle.figures.specs.Counts.{bare, Counting}
use Rattle.figures.specs.Tables.{rows_in, CallTable}
use Rattle.figures.proofs.Slices.{run_many}
use Rattle.call.specs.Settles.{call_in, ReadyIn, weighed_now, SettledCall}
use Rattle.lent_state.specs.declared.Taken.{Taken}
use Rattle.lent_state.specs.Answers.{Finishes, TakesIn}
use Rattle.lent_state.specs.Lent.{SizedWords}
use Rattle.figures.proofs.Needs.{need_agrees}

-- ---- entries that stand at the front

pub standing : {times os ns vs : List ℕ} {retained count : ℕ} → SizedWords times os ns vs retained count → EntriesWithin os ns vs count
standing z = record { owners_there = omega (arith, z); numbers_there = omega (arith, z); values_there = omega (arith, z) }

module _ (os ns vs : List ℕ) (count : ℕ) where
  -- a run that ends before the others begin
  front_run : (from n : ℕ) → from + n ≤ count → entries_from (take count os) (take count ns) (take (count * 4) vs) from n ≡ entries_from os ns vs from n
  unfolding entries_from
  front_run from n l = listed_same (entry_at (take count os) (take count ns) (take (count * 4) vs)) (entry_at os ns vs) from n (λ k u v. same k (omega arith))
    where
      same : (k : ℕ) → k < count → entry_at (take count os) (take count ns) (take (count * 4) vs) k ≡ entry_at os ns vs k
      same k u =
          rw (get_or-take count os k 0 u, get_or-take count ns k 0 u, get_or-take (count * 4) vs (k * 4) 0 (omega arith), get_or-take (count * 4) vs (k * 4 + 1) 0 (omega arith), get_or-take (count * 4) vs (k * 4 + 2) 0 (omega arith), get_or-take (count * 4) vs (k * 4 + 3) 0 (omega arith))

-- as many times are added as points
added_times : (w : List ℕ) → length (times_added w) ≡ points_added w
added_times w = go (ltb 1 (length w))
  where
    go : (t : Bool) → length (cond t (get_or w 0 0 ∷ []) []) ≡ one_if t
    go true = refl
    go false = refl

module _ (b : List ℕ) (log : LogEnd) (times os ns vs : List ℕ) (count : ℕ) (f : Formed (stored_in b log times os ns vs count)) where
  abbrev s : Stored
  s = stored_in b log times os ns vs count

  -- ---- what the counts start from

  pub counting : {masks counts lows : List ℕ} → StateFigures s masks counts lows → (n : ℕ) → n ≡ node_count b → Counting (bare b log times) (take n counts)
  unfolding counts_stored
  counting {masks} {counts} k n e = record { accepted = f.accepted; few_points = f.few_points; few_times = f.few_times; times_many = f.times_many; counts = ap (λ q. take q counts) e ∙ k.counts_are_stored }

  -- no node has more rows than there are entries
  pub few_rows : {begins pairs : List ℕ} → EntryPlaces s os ns vs count begins pairs → count ≤ 512 → (x : ℕ) → x < node_count b → get_or pairs x 0 - get_or begins x 0 ≤ 512
  few_rows p l x o = omega (arith, p.pairs_last x o, p.within x o)

  module _ (w : List ℕ) where
    -- no count depends on the entries
    bare_count : (x : ℕ) → count_after (bare b log times) w x ≡ count_after s w x
    unfolding count_after counts_after count_before counts_stored stamps_now
    bare_count x = refl

    bare_counts : counts_after (bare b log times) w ≡ counts_after s w
    unfolding counts_after count_before counts_stored stamps_now
    bare_counts = refl

    bare_wanted : (x : ℕ) → wanted_from b (count_after (bare b log times) w) x ≡ wanted_from b (count_after s w) x
    unfolding count_after counts_after count_before counts_stored stamps_now
    bare_wanted x = refl

    module _ {masks counts lows begins pairs times₀ stamps₀ after table : List ℕ} {retained needed : ℕ} (z : SizedWords times₀ os ns vs retained count) (k : StateFigures s masks counts lows) (p : EntryPlaces s os ns vs count begins pairs)
        (n : ℕ) (e : n ≡ node_count b) (t : CallTable (bare b log times) w masks (take n counts) lows begins pairs stamps₀ after table needed)
        (m : ℕ) (em : m ≡ length times + 1) where
      abbrev stamps : List ℕ
      stamps = take m stamps₀

      now : stamps ≡ times ++ get_or w 0 0 ∷ []
      now = ap (λ q. take q stamps₀) em ∙ t.stamps_are_now

      stands : EntriesWithin os ns vs count
      stands = standing z

      owners_taken : length (take count os) ≡ count
      owners_taken = length-take-le count os stands.owners_there

      entries_taken : entries_from (take count os) (take count ns) (take (count * 4) vs) 0 (length (take count os)) ≡ entries_from os ns vs 0 count
      entries_taken = rw owners_taken (front_run os ns vs count 0 count (omega arith))

      times_taken : take (length stamps - 1) stamps ≡ times
      times_taken =
          let l : length (times ++ get_or w 0 0 ∷ []) - 1 ≡ length times = omega (arith, length-append times (get_or w 0 0 ∷ [])) in
          rw (now, l) (take-append_seam times (get_or w 0 0 ∷ []))

      -- what is stored as the call begins is the state
      call_is : call_in b log stamps os ns vs count ≡ s
      call_is = ap₂ (λ ts es. record { rule = b; points = log.points; latest = log.latest; times = ts; entries = es }) times_taken entries_taken

      before_is : (x : ℕ) → x < node_count b → get_or (take n counts) x 0 ≡ count_before s x
      unfolding count_before
      before_is x o = ap (λ cs. get_or cs x 0) (ap (λ q. take q counts) e ∙ k.counts_are_stored)

      module _ (bytes : (x : ℕ) → get_or masks x 0 < 256) where
        figures_of_lem : (x : ℕ) → x < node_count b → NodeFigures s w (take count os) (take count ns) (take (count * 4) vs) table x
        figures_of_lem x o =
            let eb : begin_in table x ≡ get_or begins x 0 = t.begin x o in
            let ep : pairs_in table x ≡ get_or pairs x 0 = t.pair x o in
            let ee : end_in table x ≡ get_or begins (x + 1) 0 = t.end x o in
            let first : get_or begins x 0 ≤ get_or pairs x 0 = p.rows_first x o in
            let last : get_or pairs x 0 ≤ get_or begins (x + 1) 0 = p.pairs_last x o in
            let most : get_or begins (x + 1) 0 ≤ count = p.within x o in
            record {
              mask = λ v u. ap (λ m. in_mask m v) (t.mask x o) ∙ k.masks_free x o v u;
              mask_small = omega (arith, t.mask x o, bytes x);
              low = t.low x o ∙ k.lows_wanted x o;
              before = t.before_call x o ∙ before_is x o;
              after = t.after_call x o ∙ bare_count x;
              want = t.want x o ∙ ap (λ (q : Point). q.0) (bare_wanted x);
              weight = t.weight x o;
              sets_first = omega arith;
              pairs_last = omega arith;
              within = omega (arith, owners_taken);
              sets = rw (eb, ep) (front_run os ns vs count (get_or begins x 0) (get_or pairs x 0 - get_or begins x 0) (omega arith) ∙ p.rows_there x o);
              pairs = rw (ep, ee) (front_run os ns vs count (get_or pairs x 0) (get_or begins (x + 1) 0 - get_or pairs x 0) (omega arith) ∙ p.pairs_there x o);
            }

        -- what the walk asks
        pub call_ready : EventThere w → log.points + points_added w ≤ most_points → 288 ≤ length table → ReadyIn b log stamps os ns vs count w table
        call_ready event room long =
            record {
              ready =
                  subst (λ q. CallReady q w (take count os) (take count ns) (take (count * 4) vs) stamps table) (sym call_is)
                  (record {
                    formed = f;
                    event = event;
                    not_full = room;
                    stamps_are_now = now;
                    entries_are = sym entries_taken;
                    numbers_are_there = omega (arith, owners_taken, length-take-le count ns stands.numbers_there);
                    values_are_there = omega (arith, owners_taken, length-take-le (count * 4) vs stands.values_there);
                    figures_there = omega (arith, nodes_most b f.accepted.0 f.accepted.1);
                    each = figures_of_lem;
                  });
              few_kept = z.few_kept;
              owners_long = z.owners_long;
              numbers_long = z.numbers_long;
              values_are_long = z.values_are_long;
            }

      -- ---- the rows that the call needs

      rows_same : (x : ℕ) → x < node_count b → rows_most s w x ≡ rows_in table x
      rows_same x o =
          let kept : length (gather (held s.entries x) (points_from (wanted_from b (count_before s) x) (count_before s x - (wanted_from b (count_before s) x).0))) ≡ get_or pairs x 0 - get_or begins x 0
          = sym (entries_rows (λ j. entry_of x 0 j.0) (held s.entries x) (points_from (wanted_from b (count_before s) x) (count_before s x - (wanted_from b (count_before s) x).0))) ∙ ap length (sym (p.rows_there x o)) ∙ run_many os ns vs (get_or begins x 0) (get_or pairs x 0 - get_or begins x 0) in
          omega (arith, kept, t.begin x o, t.pair x o, t.after_call x o ∙ bare_count x, t.before_call x o ∙ before_is x o)

      pub rows_enough : rows_needed (call_in b log stamps os ns vs count) w ≤ needed
      rows_enough =
          let (a, ok) = f.accepted in
          let same = need_agrees b a ok (rows_most s w) (rows_in table) rows_same (last_node b) (last_is_node b a ok) in
          rw call_is (omega (arith, same, t.needed_is))

      -- ---- what the call leaves

      -- the times of the points, of which the last may be added
      first_times : take (length times + points_added w) stamps₀ ≡ times ++ times_added w
      first_times = go (ltb 1 (length w)) refl
        where
          go : (u : Bool) → ltb 1 (length w) ≡ u → take (length times + one_if u) stamps₀ ≡ times ++ cond u (get_or w 0 0 ∷ []) []
          go true e = t.stamps_are_now
          go false e =
              let q : length times + 0 ≡ length times = omega arith in
              ap (λ j. take j stamps₀) q ∙ sym (take-take (length times) (length times + 1) stamps₀ (omega arith)) ∙ ap (take (length times)) t.stamps_are_now ∙ take-append_seam times (get_or w 0 0 ∷ []) ∙ sym (append-nil times)

      -- what is weighed, once the times are retained, is what the method says of the call
      pub taken_now : {buffer buffer' times' os' ns' vs' : List ℕ} {r : Result Written Refusal} {q : Result Taken Refusal} {added : ℕ} (first : ℕ) → added ≡ points_added w → first ≡ length times + points_added w
          → SettledCall (call_in b log stamps os ns vs count) w buffer buffer' os ns vs os' ns' vs' r → Finishes (log.points + added) (take n after) (take first stamps₀) times₀ times' r q
          → TakesIn s w buffer buffer' times₀ os ns vs times' os' ns' vs' (weighed_now s w (length buffer)) q
      unfolding stored_now
      taken_now {buffer} {buffer'} {times'} {os'} {ns'} {vs'} {r} {q} {added} first ea ef a₀ h₀ =
          let a = subst (λ q. SettledCall q w buffer buffer' os ns vs os' ns' vs' r) call_is a₀ in
          let ft : take first stamps₀ ≡ times ++ times_added w = ap (λ j. take j stamps₀) ef ∙ first_times in
          let h : Finishes (log.points + points_added w) (take n after) (times ++ times_added w) times₀ times' r q
          = subst (λ j. Finishes (log.points + j) (take n after) (times ++ times_added w) times₀ times' r q) ea (subst (λ ts. Finishes (log.points + added) (take n after) ts times₀ times' r q) ft h₀) in
          record {
            outcome = h.outcome ∙ a.outcome;
            written = a.written ∙ ap (λ o. buffer_after o (report_now s w) buffer) (sym h.outcome);
            done = λ u d.
                let (ew, ets, er) = h.done u d in
                let (ek, few, es) = a.stored u.written ew in
                let ec : take n after ≡ counts_after s w = ap (λ q. take q after) e ∙ t.counts_now ∙ bare_counts in
                let el : log.points + points_added w - length (times ++ times_added w) ≡ log.points - length times = omega (arith, length-append times (times_added w), added_times w) in
                let dropped : drop ((first_retained (log.points + points_added w) (take n after)).0 - (log.points + points_added w - length (times ++ times_added w))) (times ++ times_added w) ≡ (stored_now s w).times = rw (ec, el) in
                record {
                  times_stored = ets ∙ ap (λ ts. at_front ts times₀) dropped;
                  retained_are = er ∙ sym (length-drop _ (times ++ times_added w)) ∙ ap length dropped;
                  entries-stored = es;
                  kept_are = ek;
                };
            stays = λ r d. let (er, et) = h.stays r d in let (eo, en, ev) = a.stays r er in (et, eo, en, ev);
          }
