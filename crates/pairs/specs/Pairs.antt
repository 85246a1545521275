-- Pairs of an age and a row in two parallel runs of words, as a set that may be too large for the words; ages that don't fall, and pairs grown older.
use Rattle.std.specs.Prelude.{ℕ, suc, ◌+◌, ◌-◌, ◌*◌, ◌≤◌, ◌<◌, min, ◌≡◌, List, ◌∷◌, map, length, get_or, drop}
use Rattle.meaning.specs.Evaluator.{insert_all}
use Rattle.rowset.specs.Sets.{Led}
use Rattle.rowset.specs.declared.Gathered.{Gathered}
use Rattle.kinds.specs.Kinds.{pair_at, pairs_from}

-- a set of pairs of a node with this lowest free variable at the front of the words; or its count is one more than these have room for, and says only that the pairs are too many. The next pair is looked for near one that those before it lead up to
pub record PairRoom (lowest : ℕ) (ages values : List ℕ) (set : Gathered) : Type 0 where
  pub most : set.count ≤ length ages + 1
  pub values_there : length ages * 4 ≤ length values
  pub led : Led (suc lowest) (pair_at ages values) set.near

-- the first n pairs are this set, or n says that it is too large for the words
pub record PairsStand (ages values : List ℕ) (n : ℕ) (pairs : List (List ℕ)) : Type 0 where
  pub counted : n ≡ min (length ages + 1) (length pairs)
  pub set : n ≤ length ages → pairs_from ages values 0 n ≡ pairs

-- the set that stood in the old words stands in the new ones with pairs put in
pub record PairsAdded (lowest : ℕ) (ages values : List ℕ) (set : Gathered) (ages' values' : List ℕ) (set' : Gathered) (pairs : List (List ℕ)) : Type 0 where
  pub ages_long : length ages' ≡ length ages
  pub values_long : length values' ≡ length values
  pub room : PairRoom lowest ages' values' set'
  pub put : (whole : List (List ℕ)) → PairsStand ages values set.count whole → PairsStand ages' values' set'.count (insert_all (suc lowest) whole pairs)

-- none of the first n ages is below one before it
abbrev pub Rising : List ℕ → ℕ → Type 0
Rising ages n = (j k : ℕ) → j ≤ k → k < n → get_or ages j 0 ≤ get_or ages k 0

-- of the first n ages, the first m are those that are below a bound when grown by so much
pub record Below (ages : List ℕ) (n by bound m : ℕ) : Type 0 where
  pub most : m ≤ n
  pub below : (k : ℕ) → k < m → get_or ages k 0 + by < bound
  pub others : (k : ℕ) → m ≤ k → k < n → bound ≤ get_or ages k 0 + by

-- pairs grown older by so much, none to more than an age
abbrev pub grown_pairs : ℕ → ℕ → List (List ℕ) → List (List ℕ)
grown_pairs by most pairs = map (λ p. min (get_or p 0 0 + by) most ∷ drop 1 p) pairs

-- the first m of the old pairs, grown older, have room behind the pairs of a set and stand after the last of them, which those before it lead up to, and none is more than `most` old
pub record Behind (old_ages : List ℕ) (m by most : ℕ) (ages : List ℕ) (set : Gathered) : Type 0 where
  pub some : 0 < m
  pub room : set.count + m ≤ length ages
  pub uncut : get_or old_ages (m - 1) 0 + by ≤ most
  pub last : 0 < set.count → set.near ≡ set.count - 1
  pub after : 0 < set.count → get_or ages (set.count - 1) 0 < get_or old_ages 0 0 + by
