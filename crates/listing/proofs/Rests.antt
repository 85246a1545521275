-- Bytes that are moved to the front by way of others, and stay there where more is read behind them.
use Prim.Native.Nat.{ℕ, ◌-◌, ◌≤◌}
use native.Mathlib.Nat.{sub-zero}
use native.Mathlib.Omega.{arith}
use mathlib.Core.Path.{◌≡◌, ◌∙◌}
use mathlib.Core.List.{List, ◌++◌}
use lib.ListN.{length, take, drop, length-drop}
use lib.Seq.{length-take-le, take-append_seam, take-append-le, take-take}
use Rattle.writer.specs.Puts.{Put}
use Rattle.writer.proofs.Putting.{put_front, put_long}

pub part_long : (xs : List ℕ) (from to : ℕ) → from ≤ to → to ≤ length xs → length (take (to - from) (drop from xs)) ≡ to - from
part_long xs from to h l = length-take-le (to - from) (drop from xs) (rw length-drop (omega arith))

-- what is put stands at the front
pub front_is : {before us after : List ℕ} {end : ℕ} → Put before 0 us after end → length us ≤ length before → take end after ≡ us
front_is {before} {us} p h =
    let f = put_front p h in
    rw (f.0, f.1) (take-append_seam us (drop (length us) before))

-- some bytes are put elsewhere, and from there to the front
pub by_way : {before us between bytes after : List ℕ} {n end : ℕ} → Put before 0 us between n → length us ≤ length before → Put bytes 0 (take (n - 0) between) after end → Put bytes 0 us after end
by_way p h q = rw (sub-zero, front_is p h) at q

-- and stays there where others come behind it
pub front_stays : {before us after : List ℕ} {end n : ℕ} (rest : List ℕ) → Put before 0 us after end → length us ≤ length before → end ≡ n → take n (take end after ++ rest) ≡ us
front_stays {before} {us} {after} {end} rest p h e =
    let l = length-take-le end after (omega (arith, p.place, put_long p, h)) in
    rw (← e) (take-append-le end (take end after) rest (omega (arith, l)) ∙ take-take end end after (omega arith) ∙ front_is p h)
