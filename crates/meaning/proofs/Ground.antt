-- What is promised of the definitions, for every accepted rule b, with checking's answer a, and every node x of it; the last node is the pattern.
use Prim.Native.Nat.{ℕ, ◌+◌, ◌≤◌, ◌<◌}
use mathlib.Core.Path.{◌≡◌, ap}
use mathlib.Core.Bool.{true}
use mathlib.Core.List.{List, [], ◌∷◌, ◌++◌}
use native.Mathlib.Omega.{arith}
use Rattle.meaning.specs.Outcome.{given}
use Rattle.meaning.specs.Log.{Log, Ordered, Taken, time_of, in_order, GoesOn, stamp, size, time, latest, log_of}
use Rattle.meaning.specs.Formula.{free, reach, without_next}
use Rattle.meaning.specs.Definition2.{Holds}
use Rattle.meaning.specs.Evaluator.{vals}
use Rattle.meaning.specs.Settled.{settled}
use Rattle.meaning.specs.RuleFile.{Accepted, checking, node_count, formula_at, pattern}
use Rattle.meaning.specs.declared.Point.{Point}
use Rattle.meaning.specs.declared.Stamp.{Stamp}
use Rattle.meaning.specs.Exact.{Exact}
use Rattle.meaning.proofs.Agreement.{exact}
use Rattle.meaning.proofs.Accepted.{accepted, fine}
use Rattle.meaning.proofs.Growth.{last_append, log_ordered, extends}
use Rattle.meaning.proofs.Settles.{prefix, stays, reached}
use Rattle.meaning.proofs.Steady.{steady_by}

module _ (b : List ℕ) (a : Accepted) (ok : checking b ≡ given a) (x : ℕ) (node : x < node_count b) where
  -- 1. The evaluator's rows are the valuations that satisfy the node by Definition 2: nothing but these, none missing, each once, in order.
  pub agree : (l : Log) (i : Point) → Exact (free (formula_at b x)) (λ v. Holds l (formula_at b x) v i) (vals l (formula_at b x) i)
  agree l i = exact l (formula_at b x) (fine b a ok x node) i

  -- 2. Settled points form a prefix; a point settled stays settled as the log grows.
  pub settled_prefix : (l : Log) → Ordered l → (i j : Point) → j.0 ≤ i.0 → settled l (formula_at b x) i ≡ true → settled l (formula_at b x) j ≡ true
  settled_prefix l o = prefix l o (formula_at b x) (fine b a ok x node)

  pub settled_stays : (es es' : List Taken) → GoesOn es es' → (i : Point) → settled (log_of es) (formula_at b x) i ≡ true → settled (log_of es') (formula_at b x) i ≡ true
  settled_stays es es' g = stays (log_of es) (log_of es') (extends es es' g) (formula_at b x)

  -- 3. The valuations at a settled point are its valuations by Definition 2 on every log that goes on from this one, by points and notices that aren't below its latest known time.
  pub steady_meaning : (es es' : List Taken) → GoesOn es es' → (i : Point) → settled (log_of es) (formula_at b x) i ≡ true
      → Exact (free (formula_at b x)) (λ v. Holds (log_of es') (formula_at b x) v i) (vals (log_of es) (formula_at b x) i)
  steady_meaning es es' g i s = rw (steady_by (log_of es) (log_of es') (extends es es' g) (formula_at b x) (fine b a ok x node) i s) (agree (log_of es') i)

-- 4. For a rule without "next", a point is settled no later than by the first accepted point or notice, itself or after it, whose time is at least the point's time plus the reach: by the log as it stands with that one, e.
pub reach_promise : (b : List ℕ) (a : Accepted) → checking b ≡ given a → without_next (pattern b) ≡ true → (es : List Taken) (e : Taken) → in_order (stamp 0) (es ++ e ∷ []) ≡ true
    → (i : Point) → i.0 < size (log_of (es ++ e ∷ [])) → (time (log_of (es ++ e ∷ [])) i).0 + a.reach ≤ (time_of e).0 → settled (log_of (es ++ e ∷ [])) (pattern b) i ≡ true
unfolding log_of latest
reach_promise b a ok without es e o i n h =
    let l : Log = log_of (es ++ e ∷ []) in
    let r : a.reach ≡ reach (pattern b) = ap (λ (c : Accepted). c.reach) (accepted b a ok).answer in
    reached l (log_ordered (es ++ e ∷ []) o) (pattern b) without i n (omega (arith, ap (λ (t : Stamp). t.0) last))
  where
    last : latest (log_of (es ++ e ∷ [])) ≡ time_of e
    last = last_append (stamp 0) es (e ∷ [])
