-- A rule as a tree of the fifteen kinds: its free variables and its reach.
use Rattle.std.specs.Prelude.{ℕ, ◌+◌, max, Bool, true, false, not, ◌&&◌, ◌||◌, List, [], ◌∷◌, take, ltb, leb, eqb, pos, ◌+ℤ◌}
use Rattle.std.specs.Int.Signed.{lt_z}
use Rattle.meaning.specs.Lists.{all, any, first_or}
use Rattle.meaning.specs.declared.Term.{Term}
use Rattle.meaning.specs.declared.Term.TheVariants.{Variable, Constant}
use Rattle.meaning.specs.declared.Terms.{Terms}
use Rattle.meaning.specs.declared.Window.{Window}
use Rattle.meaning.specs.declared.Comparison.{Comparison}
use Rattle.meaning.specs.declared.Comparison.TheVariants.{Equal, Different, Less, NotLess, ShiftedLess}

-- "The desk's words and their meaning", 1 to 14; kind 15 is a keep: "Terms, free variables, settling, reach and kept follow kind 4"
pub data Formula : Type 0 where
  atom : ℕ → List Term → Formula
  and and_not : Formula → Formula → Formula
  keep : Formula → Comparison → Term → Term → Formula
  or : Formula → Formula → Formula
  exists : Formula → ℕ → Formula
  previous next : Formula → Window → Formula
  since not_since until not_until : Formula → Formula → Window → Formula
  once eventually : Formula → Window → Formula

-- "its first words, as many as its arity, are its terms"
abbrev pub terms_of : Terms → List Term
terms_of t = take t.count (t.first ∷ t.second ∷ t.third ∷ t.fourth ∷ [])

-- "A window [c, d) .. holds t with c ≤ t < d .. d = 0 means no end"
abbrev pub in_window : Window → ℕ → Bool
in_window w t = leb w.start t && (eqb w.end 0 || ltb t w.end)

-- "0 equal, 1 different, 2 less, 3 not less"; "it holds where the first term + k < the second, over whole numbers"
abbrev pub compares : Comparison → ℕ → ℕ → Bool
compares Equal a b = eqb a b
compares Different a b = not (eqb a b)
compares Less a b = ltb a b
compares NotLess a b = not (ltb a b)
compares (ShiftedLess k) a b = lt_z (pos a +ℤ k) (pos b)

-- the variable is the term
abbrev pub is_variable : ℕ → Term → Bool
is_variable x (Variable y) = eqb x y
is_variable x (Constant c) = false

-- "Free variables: an atom's variable terms; for 2 the union; for 3 and 4 left's; for 6 left's without the variable; for 9 to 12 right's; otherwise left's"
abbrev pub free : Formula → ℕ → Bool
free (atom r ts) x = any (is_variable x) ts
free (and a b) x = free a x || free b x
free (and_not a b) x = free a x
free (keep a c s t) x = free a x
free (or a b) x = free a x
free (exists a y) x = free a x && not (eqb x y)
free (previous a w) x = free a x
free (next a w) x = free a x
free (since a b w) x = free b x
free (not_since a b w) x = free b x
free (until a b w) x = free b x
free (not_until a b w) x = free b x
free (once a w) x = free a x
free (eventually a w) x = free a x

-- "an atom has 0; kinds 11, 12 and 14 have d plus the greatest reach of their children; any other node has its children's greatest"
abbrev pub reach : Formula → ℕ
reach (atom r ts) = 0
reach (and a b) = max (reach a) (reach b)
reach (and_not a b) = max (reach a) (reach b)
reach (keep a c s t) = reach a
reach (or a b) = max (reach a) (reach b)
reach (exists a x) = reach a
reach (previous a w) = reach a
reach (next a w) = reach a
reach (since a b w) = max (reach a) (reach b)
reach (not_since a b w) = max (reach a) (reach b)
reach (until a b w) = w.end + max (reach a) (reach b)
reach (not_until a b w) = w.end + max (reach a) (reach b)
reach (once a w) = reach a
reach (eventually a w) = w.end + reach a

-- "a rule without "next""
abbrev pub without_next : Formula → Bool
without_next (atom r ts) = true
without_next (and a b) = without_next a && without_next b
without_next (and_not a b) = without_next a && without_next b
without_next (keep a c s t) = without_next a
without_next (or a b) = without_next a && without_next b
without_next (exists a x) = without_next a
without_next (previous a w) = without_next a
without_next (next a w) = false
without_next (since a b w) = without_next a && without_next b
without_next (not_since a b w) = without_next a && without_next b
without_next (until a b w) = without_next a && without_next b
without_next (not_until a b w) = without_next a && without_next b
without_next (once a w) = without_next a
without_next (eventually a w) = without_next a

-- "Variables are 0 to 3"
abbrev pub variables : List ℕ
variables = 0 ∷ 1 ∷ 2 ∷ 3 ∷ []

-- the lowest of a set of variables; 0 where it has none
abbrev pub lowest_of : (ℕ → Bool) → ℕ
lowest_of f = first_or f variables 0

-- the first set of variables lies within the second
abbrev pub within : (ℕ → Bool) → (ℕ → Bool) → Bool
within f g = all (λ x. not (f x) || g x) variables

abbrev pub term_within : Term → (ℕ → Bool) → Bool
term_within (Variable x) f = f x
term_within (Constant c) f = true

-- the condition on free variables that a node's kind sets: refusal 6 where it is broken
abbrev pub free_fits : Formula → Bool
free_fits (atom r ts) = true
free_fits (and a b) = true
free_fits (and_not a b) = within (free b) (free a)
free_fits (keep a c s t) = term_within s (free a) && term_within t (free a)
free_fits (or a b) = within (free a) (free b) && within (free b) (free a)
free_fits (exists a x) = free a x
free_fits (previous a w) = true
free_fits (next a w) = true
free_fits (since a b w) = within (free a) (free b)
free_fits (not_since a b w) = within (free a) (free b)
free_fits (until a b w) = within (free a) (free b)
free_fits (not_until a b w) = within (free a) (free b)
free_fits (once a w) = true
free_fits (eventually a w) = true
