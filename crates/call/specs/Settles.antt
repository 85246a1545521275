-- A call from a well-formed state and an admitted event or notice on: what 13 to 16 answer, and what is left of the buffer and the state's words.
use Rattle.std.specs.Prelude.{ℕ, ◌+◌, ◌-◌, ◌*◌, ◌≤◌, ◌≡◌, List, length, take, Option, Some, None, Result, Ok, Err}
use Rattle.meaning.specs.Outcome.{Outcome, most_kept}
use Rattle.meaning.specs.RuleFile.{node_count, last_node}
use Rattle.meaning.specs.Keeper.{weighed, buffer_after}
use Rattle.meaning.specs.declared.LogEnd.{LogEnd}
use Rattle.method.specs.Stored.{Stored}
use Rattle.method.specs.Step.{points_added, count_after, stored_now, crowded_now, report_now}
use Rattle.limits.specs.Weighs.{weighed_of}
use Rattle.limits.specs.declared.Refusal.{Refusal}
use Rattle.limits.specs.declared.Written.{Written}
use Rattle.node_step.specs.Figures.{called, CallReady}
use Rattle.node_step.specs.Walks.{set_words}
use Rattle.call.specs.Stores.{EntriesStored}

-- what is stored as the call begins, where the first count entries of the words are a state's
abbrev pub call_in : List ℕ → LogEnd → List ℕ → List ℕ → List ℕ → List ℕ → ℕ → Stored
call_in b e stamps os ns vs count = called b e stamps (take count os) (take count ns) (take (count * 4) vs)

-- what holds as the call goes through the nodes, in the words of a state
pub record ReadyIn (b : List ℕ) (e : LogEnd) (stamps os ns vs : List ℕ) (count : ℕ) (w f : List ℕ) : Type 0 where
  pub ready : CallReady (call_in b e stamps os ns vs count) w (take count os) (take count ns) (take (count * 4) vs) stamps f
  pub few_kept : count ≤ most_kept
  pub owners_long : length os ≡ most_kept
  pub numbers_long : length ns ≡ most_kept
  pub values_are_long : length vs ≡ most_kept * 4

-- what is lent for the entries that are kept: words for them, and a table of blocks for every node
abbrev pub RoomToKeep : List ℕ → List ℕ → List ℕ → List ℕ → Type 0
RoomToKeep b on ov bl = (length on ≤ most_kept) × (length on * 4 ≤ length ov) × (set_words + node_count b * 3 ≤ length bl)

-- what follows 9 to 12
unfoldable pub weighed_now : Stored → List ℕ → ℕ → Outcome ℕ
weighed_now s w room =
    weighed (crowded_now s w) (node_count s.rule) (s.points + points_added w - count_after s w (last_node s.rule)) (length (stored_now s w).entries) (length (report_now s w)) room

-- the call settled: the answer, the buffer, and the entries that are then stored; on a refusal every word as it was
pub record SettledCall (s : Stored) (w buffer buffer' os ns vs os' ns' vs' : List ℕ) (r : Result Written Refusal) : Type 0 where
  pub outcome : weighed_of r ≡ weighed_now s w (length buffer)
  pub written : buffer' ≡ buffer_after (weighed_of r) (report_now s w) buffer
  pub stored : (v : Written) → r ≡ Ok v → (v.kept ≡ length (stored_now s w).entries) × (v.kept ≤ most_kept) × EntriesStored os ns vs os' ns' vs' (stored_now s w).entries
  pub stays : (e : Refusal) → r ≡ Err e → (os' ≡ os) × (ns' ≡ ns) × (vs' ≡ vs)

-- the call tried: settled; or more entries would be kept than there is room for, and every word is as it was
abbrev pub Tried : Stored → List ℕ → List ℕ → List ℕ → List ℕ → List ℕ → List ℕ → List ℕ → List ℕ → List ℕ → Option (Result Written Refusal) → Type 0
Tried s w buffer buffer' os ns vs os' ns' vs' (Some r) = SettledCall s w buffer buffer' os ns vs os' ns' vs' r
Tried s w buffer buffer' os ns vs os' ns' vs' None = (buffer' ≡ buffer) × (os' ≡ os) × (ns' ≡ ns) × (vs' ≡ vs)
