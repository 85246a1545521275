-- A node by its view: its children, the points of theirs that it looks at, what it asks of left, and its window. What isn't about the fifteen kinds themselves goes by the view; of the definitions here its children alone do.
use Rattle.std.specs.Prelude.{ℕ, Bool, true, not, List, [], ◌∷◌}
use Rattle.meaning.specs.declared.Node.{Node}
use Rattle.meaning.specs.declared.Node.TheVariants.{Atom, And, AndNot, Keep, Or, Exists, Previous, Next, Since, NotSince, Until, NotUntil, Once, Eventually}
use Rattle.meaning.specs.declared.Children.{Children}
use Rattle.meaning.specs.declared.Children.TheVariants.{None, One, Two}
use Rattle.meaning.specs.declared.Left.{Left}
use Rattle.meaning.specs.declared.Left.TheVariants.{Holds, Denied, Always}
use Rattle.meaning.specs.declared.Times.TheVariants.{Here, Before, After, Past, Future}
use Rattle.meaning.specs.declared.View.{View}

-- a node without a window
abbrev pub here : Children → View
here c = record { children = c; times = Here; left = Always; window = record { start = 0; end = 0 } }

-- "left and right name children"; "previous if .. its child is settled at i−1; next if its child is settled at i+1; 9, 10 and 13 if .. at every j ≤ i; 11, 12 and 14 if .. at every j ≥ i"; "In 10 and 12 left is denied", 13 and 14 are "since and until with a left that is always true"
abbrev pub view_of : Node → View
view_of (Atom r t) = here None
view_of (And a b) = here (Two a b)
view_of (AndNot a b) = here (Two a b)
view_of (Keep a c s) = here (One a)
view_of (Or a b) = here (Two a b)
view_of (Exists a x) = here (One a)
view_of (Previous a w) = record { children = One a; times = Before; left = Always; window = w }
view_of (Next a w) = record { children = One a; times = After; left = Always; window = w }
view_of (Since a b w) = record { children = Two a b; times = Past; left = Holds; window = w }
view_of (NotSince a b w) = record { children = Two a b; times = Past; left = Denied; window = w }
view_of (Until a b w) = record { children = Two a b; times = Future; left = Holds; window = w }
view_of (NotUntil a b w) = record { children = Two a b; times = Future; left = Denied; window = w }
view_of (Once a w) = record { children = One a; times = Past; left = Always; window = w }
view_of (Eventually a w) = record { children = One a; times = Future; left = Always; window = w }

-- the children as a list, left first
abbrev pub children_in : Children → List ℕ
children_in None = []
children_in (One a) = a ∷ []
children_in (Two a b) = a ∷ b ∷ []

-- left passes, where a row was found in its set or not
abbrev pub passes : Left → Bool → Bool
passes Holds found = found
passes Denied found = not found
passes Always found = true
