-- Words put into a list one after another.
use Rattle.std.specs.Prelude.{ℕ, suc, ◌+◌, List, [], ◌∷◌, set}

-- the words ws stand from at + k on
abbrev pub put_from : List ℕ → ℕ → ℕ → List ℕ → List ℕ
put_from f at k [] = f
put_from f at k (w ∷ ws) = put_from (set f (at + k) w) at (suc k) ws
