-- A start: the state of a rule, that it stores the empty log, and what the answer of checking then promises.
use Prim.Native.Nat.{ℕ, ◌≤◌, ◌+◌, ◌-◌}
use native.Mathlib.Nat.{zero-sub}
use native.Mathlib.Omega.{arith}
use mathlib.Core.Path.{◌≡◌, sym, ◌∙◌, ap, subst}
use mathlib.Core.Bool.{true}
use mathlib.Core.List.{List, []}
use lib.ListN.{length, drop, replicate, length-append, length-replicate, replicate-append-replicate}
use lib.Seq.{drop_at}
use Rattle.meaning.specs.Outcome.{given}
use Rattle.meaning.specs.Log.{size, latest, log_of}
use Rattle.meaning.specs.RuleFile.{Accepted as Answer, checking, node_count}
use Rattle.meaning.specs.Kept.{entries_of, entries}
use Rattle.meaning.proofs.Accepted.{accepted, nodes_most}
use Rattle.method.specs.Stored.{stored_of}
use Rattle.method.proofs.Lists.{gather_none}
use Rattle.method.proofs.Reached.{empty_entries}
use Rattle.entries.specs.Entries.{entries_from}
use Rattle.entries.specs.Appended.{at_front}
use Rattle.figures.proofs.Front.{front_read}
use Rattle.lent_state.specs.Lent.{Lent, fitting}
use Rattle.lent_state.proofs.Memory.{sized_fits}
use Rattle.image_words.specs.Promises.{ReadsLent}
use Rattle.image_words.specs.declared.NotAnImage.{NotAnImage}
use Rattle.std.specs.Prelude.{Result}
use Rattle.monitor.specs.State.{blank, lent_of, start_state}
use Rattle.monitor.specs.declared.State.{State}
use Rattle.monitor.proofs.Along.{Stores}

-- the state of a rule: its bytes copied to the front of zeros
pub rule_in_lem : (z : State) (b bytes : List ℕ) → z ≡ blank → length b ≤ 652 → bytes ≡ at_front b (replicate 652 0)
    → record { rule = bytes; bytes = length b; points = z.points; latest = z.latest; times = z.times; retained = z.retained; owners = z.owners; numbers = z.numbers; values = z.values; count = z.count } ≡ start_state b
unfolding start_state
rule_in_lem z b bytes e l t =
    let n : length b + (652 - length b) ≡ 652 = omega arith in
    let zeros : drop {A = ℕ} (length b) (replicate 652 0) ≡ replicate (652 - length b) 0
    = ap (drop (length b)) (ap (λ k. replicate k 0) (sym n) ∙ sym (replicate-append-replicate (length b) (652 - length b) 0)) ∙ drop_at (replicate (length b) 0) (replicate (652 - length b) 0) (length b) (length-replicate (length b) 0) in
    rw (e, t, zeros)

-- an accepted rule has room in the state
pub rule_fits : (b : List ℕ) (a : Answer) → checking b ≡ given a → length b ≤ 652
rule_fits b a ok = omega (arith, (accepted b a ok).long, nodes_most b a ok)

-- its arrays have a state's lengths, and those of the state of zeros
start_fits : (b : List ℕ) → length b ≤ 652 → fitting (lent_of (start_state b)) ≡ true
unfolding start_state
start_fits b l =
    let s = start_state b in
    sized_fits {rule = s.rule} {times = s.times} {os = s.owners} {ns = s.numbers} {vs = s.values} (record { rule_long = simp (length-append, length-replicate) (omega arith); times_long = length-replicate {A = ℕ} 65 0; owners_long = length-replicate {A = ℕ} 512 0; numbers_long = length-replicate {A = ℕ} 512 0; values_are_long = length-replicate {A = ℕ} 2048 0 })

pub blank_fits : fitting (lent_of blank) ≡ true
blank_fits = start_fits [] (omega arith)

-- words read into a state of zeros
pub read_into : (z : State) {ws : List ℕ} {r : Result ℕ NotAnImage} {m : Lent} → z ≡ blank → ReadsLent (lent_of z) ws r m → ReadsLent (lent_of blank) ws r m
read_into z {ws} {r} {m} e h = subst (λ s. ReadsLent (lent_of s) ws r m) e h

-- what the start's state stores is the empty log
pub start_stores : (b : List ℕ) (a : Answer) → checking b ≡ given a → Stores b (log_of []) (lent_of (start_state b))
unfolding start_state stored_of entries entries_from log_of size latest
start_stores b a ok =
    let l : length b ≤ 652 = rule_fits b a ok in
    record {
      fits = start_fits b l;
      stores = rw (front_read b (replicate (652 - length b) 0), zero-sub, gather_none (entries_of b (log_of [])) 0 (node_count b) (λ x u o. empty_entries b x));
    }
