-- "The rule file" and "Check a rule": a file's nodes, its formulas, and whether it is accepted.
use Rattle.std.specs.Prelude.{ℕ, zero, suc, ◌+◌, ◌-◌, ◌*◌, ◌/◌, ◌%◌, Bool, true, false, not, cond, ◌&&◌, ◌||◌, List, [], ◌∷◌, length, get_or, drop, ltb, leb, eqb}
use Rattle.meaning.specs.Lists.{all, any, range, gather, occurrences}
use Rattle.meaning.specs.Outcome.{Outcome, refused, given, when, cut, other_version, size_out, misshapen, window_out, free_broken, not_one_parent, most_nodes, longest_window}
use Rattle.meaning.specs.Formula.{Formula, atom, and, and_not, keep, or, exists, previous, next, since, not_since, until, not_until, once, eventually, terms_of, free, reach, free_fits}
use Rattle.meaning.specs.View.{view_of, children_in}
use Rattle.meaning.specs.Readings.{twos_complement}
use Rattle.meaning.specs.declared.Term.{Term}
use Rattle.meaning.specs.declared.Term.TheVariants.{Variable, Constant}
use Rattle.meaning.specs.declared.Terms.{Terms}
use Rattle.meaning.specs.declared.Sides.{Sides}
use Rattle.meaning.specs.declared.Window.{Window}
use Rattle.meaning.specs.declared.Comparison.{Comparison}
use Rattle.meaning.specs.declared.Comparison.TheVariants.{Equal, Different, Less, NotLess, ShiftedLess}
use Rattle.meaning.specs.declared.Head.{Head}
use Rattle.meaning.specs.declared.Body.{Body}
use Rattle.meaning.specs.declared.Node.{Node}
use Rattle.meaning.specs.declared.Node.TheVariants.{Atom, And, AndNot, Keep, Or, Exists, Previous, Next, Since, NotSince, Until, NotUntil, Once, Eventually}

-- "a word is an unsigned 32-bit number, little-endian in files": the word at byte k
unfoldable pub word_at : List ℕ → ℕ → ℕ
word_at b k = get_or b k 0 + 256 * get_or b (k + 1) 0 + 65536 * get_or b (k + 2) 0 + 16777216 * get_or b (k + 3) 0

-- "Sizes first, 12 bytes: version 1; relation count R (1 to 8); node count N (1 to 32); 0; eight arities (0 to 4; 0 beyond R)"
abbrev pub relation_count : List ℕ → ℕ
relation_count b = get_or b 1 0

abbrev pub node_count : List ℕ → ℕ
node_count b = get_or b 2 0

abbrev pub arity : List ℕ → ℕ → ℕ
arity b r = get_or b (4 + r) 0

-- the arity of relation r is 0 to 4, and 0 beyond R
abbrev pub arity_fits : List ℕ → ℕ → Bool
arity_fits b r = leb (arity b r) 4 && (ltb r (relation_count b) || eqb (arity b r) 0)

unfoldable pub sizes_fit : List ℕ → Bool
sizes_fit b = leb 1 (relation_count b) && leb (relation_count b) 8 && leb 1 (node_count b) && leb (node_count b) most_nodes && eqb (get_or b 3 0) 0 && all (arity_fits b) (range 0 8)

-- "Then two parallel arrays: N heads of 4 bytes (kind, left, right, mask), and N bodies of 4 words"
unfoldable pub head_at : List ℕ → ℕ → Head
head_at b x = record { kind = get_or b (12 + 4 * x) 0; left = get_or b (12 + 4 * x + 1) 0; right = get_or b (12 + 4 * x + 2) 0; mask = get_or b (12 + 4 * x + 3) 0 }

-- "Bodies begin at byte 12 + 4N and are read from there"
abbrev pub bodies : List ℕ → List ℕ
bodies b = drop (12 + 4 * node_count b) b

-- the body of node x, read from where the bodies begin
unfoldable pub body_at : List ℕ → ℕ → Body
body_at s x = record { word0 = word_at s (16 * x); word1 = word_at s (16 * x + 4); word2 = word_at s (16 * x + 8); word3 = word_at s (16 * x + 12) }

-- "(bit k for word k)", with p the k-th power of 2
abbrev pub bit : ℕ → ℕ → Bool
bit mask p = eqb (mask / p % 2) 1

-- "A term is a constant if its mask bit is set .. else its word is a variable number"
abbrev pub term_of : ℕ → ℕ → ℕ → Term
term_of mask p w = cond (bit mask p) (Constant w) (Variable w)

abbrev pub comparison_of : ℕ → Comparison
comparison_of n = cond (eqb n 0) Equal (cond (eqb n 1) Different (cond (eqb n 2) Less NotLess))

abbrev pub window_of : Body → Window
window_of w = record { start = w.word0; end = w.word1 }

abbrev pub terms_of_body : ℕ → ℕ → Body → Terms
terms_of_body count m w = record { count = count; first = term_of m 1 w.word0; second = term_of m 2 w.word1; third = term_of m 4 w.word2; fourth = term_of m 8 w.word3 }

-- "terms in words 0 and 1"
abbrev pub sides_of : ℕ → Body → Sides
sides_of m w = record { first = term_of m 1 w.word0; second = term_of m 2 w.word1 }

-- "An accepted node is one of these fourteen kinds with its children, terms or window"; "kind 15, keep-shifted: .. word 2 a signed two's complement number of hundredths, k"; the first argument is the arity of the relation that left names
unfoldable pub node_of : ℕ → Head → Body → Node
node_of a h w =
    cond (eqb h.kind 1) (Atom h.left (terms_of_body a h.mask w))
    (cond (eqb h.kind 2) (And h.left h.right)
    (cond (eqb h.kind 3) (AndNot h.left h.right)
    (cond (eqb h.kind 4) (Keep h.left (comparison_of h.right) (sides_of h.mask w))
    (cond (eqb h.kind 5) (Or h.left h.right)
    (cond (eqb h.kind 6) (Exists h.left w.word0)
    (cond (eqb h.kind 7) (Previous h.left (window_of w))
    (cond (eqb h.kind 8) (Next h.left (window_of w))
    (cond (eqb h.kind 9) (Since h.left h.right (window_of w))
    (cond (eqb h.kind 10) (NotSince h.left h.right (window_of w))
    (cond (eqb h.kind 11) (Until h.left h.right (window_of w))
    (cond (eqb h.kind 12) (NotUntil h.left h.right (window_of w))
    (cond (eqb h.kind 13) (Once h.left (window_of w))
    (cond (eqb h.kind 15) (Keep h.left (ShiftedLess (twos_complement w.word2)) (sides_of h.mask w))
    (Eventually h.left (window_of w)))))))))))))))

unfoldable pub node_at : List ℕ → ℕ → Node
node_at b x = node_of (arity b (head_at b x).left) (head_at b x) (body_at (bodies b) x)

-- a node's children, left first
abbrev pub children_of : Node → List ℕ
children_of n = children_in (view_of n).children

-- the formula of a node, given the formulas of its children
abbrev pub formula_of : (ℕ → Formula) → Node → Formula
formula_of f (Atom r t) = atom r (terms_of t)
formula_of f (And a b) = and (f a) (f b)
formula_of f (AndNot a b) = and_not (f a) (f b)
formula_of f (Keep a c s) = keep (f a) c s.first s.second
formula_of f (Or a b) = or (f a) (f b)
formula_of f (Exists a x) = exists (f a) x
formula_of f (Previous a w) = previous (f a) w
formula_of f (Next a w) = next (f a) w
formula_of f (Since a b w) = since (f a) (f b) w
formula_of f (NotSince a b w) = not_since (f a) (f b) w
formula_of f (Until a b w) = until (f a) (f b) w
formula_of f (NotUntil a b w) = not_until (f a) (f b) w
formula_of f (Once a w) = once (f a) w
formula_of f (Eventually a w) = eventually (f a) w

-- the tree below a node, so many nodes deep; in an accepted rule children are lower, so that x + 1 deep is all of node x
abbrev pub tree_within : List ℕ → ℕ → ℕ → Formula
tree_within b zero x = atom 0 []
tree_within b (suc depth) x = formula_of (tree_within b depth) (node_at b x)

-- the rule's nodes in file order, each as the tree below it
unfoldable pub formula_at : List ℕ → ℕ → Formula
formula_at b x = tree_within b (suc x) x

-- "The last node is the pattern"
abbrev pub last_node : List ℕ → ℕ
last_node b = node_count b - 1

abbrev pub pattern : List ℕ → Formula
pattern b = formula_at b (last_node b)

-- word k of an atom of arity a, with p the k-th power of 2: a constant, or a variable number; 0 and no mask bit past the arity
abbrev pub atom_word_fits : ℕ → ℕ → ℕ → ℕ → ℕ → Bool
atom_word_fits a mask k p w = cond (ltb k a) (bit mask p || ltb w 4) (eqb w 0 && not (bit mask p))

-- What 4 asks of each kind, with x the node's number. Left and right "name children, each lower than the node itself"; "Fields not named for a kind are 0, and so are mask bits whose word isn't a term"
abbrev pub atom_fits : List ℕ → Head → Body → Bool
atom_fits b h w =
    ltb h.left (relation_count b) && eqb h.right 0 && ltb h.mask 16
    && atom_word_fits (arity b h.left) h.mask 0 1 w.word0 && atom_word_fits (arity b h.left) h.mask 1 2 w.word1
    && atom_word_fits (arity b h.left) h.mask 2 4 w.word2 && atom_word_fits (arity b h.left) h.mask 3 8 w.word3

abbrev pub two_fit : ℕ → Head → Body → Bool
two_fit x h w = ltb h.left x && ltb h.right x && eqb h.mask 0 && eqb w.word0 0 && eqb w.word1 0 && eqb w.word2 0 && eqb w.word3 0

-- words 0 and 1 are terms, and word 3 isn't named
abbrev pub sides_fit : Head → Body → Bool
sides_fit h w = ltb h.mask 4 && (bit h.mask 1 || ltb w.word0 4) && (bit h.mask 2 || ltb w.word1 4) && eqb w.word3 0

abbrev pub keep_fits : ℕ → Head → Body → Bool
keep_fits x h w = ltb h.left x && leb h.right 3 && sides_fit h w && eqb w.word2 0

-- "Every word 2 is a k, so it is never refused"
abbrev pub shifted_fits : ℕ → Head → Body → Bool
shifted_fits x h w = ltb h.left x && eqb h.right 0 && sides_fit h w

abbrev pub exists_fits : ℕ → Head → Body → Bool
exists_fits x h w = ltb h.left x && eqb h.right 0 && eqb h.mask 0 && ltb w.word0 4 && eqb w.word1 0 && eqb w.word2 0 && eqb w.word3 0

abbrev pub one_window_fits : ℕ → Head → Body → Bool
one_window_fits x h w = ltb h.left x && eqb h.right 0 && eqb h.mask 0 && eqb w.word2 0 && eqb w.word3 0

abbrev pub two_window_fits : ℕ → Head → Body → Bool
two_window_fits x h w = ltb h.left x && ltb h.right x && eqb h.mask 0 && eqb w.word2 0 && eqb w.word3 0

abbrev pub is_one_of : List ℕ → ℕ → Bool
is_one_of ks k = any (eqb k) ks

-- "4, unknown kind, child, relation, variable, comparison, or an unnamed field not 0": none of these
unfoldable pub shape_fits : List ℕ → ℕ → Head → Body → Bool
shape_fits b x h w =
    cond (eqb h.kind 1) (atom_fits b h w)
    (cond (is_one_of (2 ∷ 3 ∷ 5 ∷ []) h.kind) (two_fit x h w)
    (cond (eqb h.kind 4) (keep_fits x h w)
    (cond (eqb h.kind 6) (exists_fits x h w)
    (cond (is_one_of (7 ∷ 8 ∷ 13 ∷ 14 ∷ []) h.kind) (one_window_fits x h w)
    (cond (is_one_of (9 ∷ 10 ∷ 11 ∷ 12 ∷ []) h.kind) (two_window_fits x h w)
    (cond (eqb h.kind 15) (shifted_fits x h w)
    false))))))

-- "d above c and at most 604,800; d = 0 means no end, and then c is at most 604,799"
abbrev pub window_fits : ℕ → ℕ → Bool
window_fits c d = cond (eqb d 0) (ltb c longest_window) (ltb c d && leb d longest_window)

-- 5 asks a window in range of kinds 7 to 14; "Kinds 11, 12 and 14 need d > 0"
unfoldable pub range_fits : Head → Body → Bool
range_fits h w =
    cond (is_one_of (11 ∷ 12 ∷ 14 ∷ []) h.kind) (window_fits w.word0 w.word1 && ltb 0 w.word1)
    (cond (is_one_of (7 ∷ 8 ∷ 9 ∷ 10 ∷ 13 ∷ []) h.kind) (window_fits w.word0 w.word1)
    true)

-- how often node x is a child
unfoldable pub times_child : List ℕ → ℕ → ℕ
times_child b x = occurrences x (gather (λ y. children_of (node_at b y)) (range 0 (node_count b)))

-- "Otherwise the answer is the reach and free variables": these as a number with bit k set where variable k is free
pub record Accepted : Type 0 where
  pub reach : ℕ
  pub free : ℕ

abbrev pub one_if : Bool → ℕ
one_if true = 1
one_if false = 0

abbrev pub mask_of : (ℕ → Bool) → ℕ
mask_of f = one_if (f 0) + 2 * one_if (f 1) + 4 * one_if (f 2) + 8 * one_if (f 3)

-- 4, then 5, then 6 of one node
unfoldable pub weigh_node : List ℕ → ℕ → Outcome Accepted → Outcome Accepted
weigh_node b x rest =
    when (not (shape_fits b x (head_at b x) (body_at (bodies b) x))) misshapen x
    (when (not (range_fits (head_at b x) (body_at (bodies b) x))) window_out x
    (when (not (free_fits (formula_at b x))) free_broken x
    rest))

-- "Then by node, lowest first"
abbrev pub weigh_nodes : List ℕ → List ℕ → Outcome Accepted → Outcome Accepted
weigh_nodes b [] rest = rest
weigh_nodes b (x ∷ xs) rest = weigh_node b x (weigh_nodes b xs rest)

-- "Last 7: the lowest node, the last one apart, that isn't a child exactly once"
abbrev pub weigh_parents : List ℕ → List ℕ → Outcome Accepted → Outcome Accepted
weigh_parents b [] rest = rest
weigh_parents b (x ∷ xs) rest = when (not (eqb (times_child b x) 1)) not_one_parent x (weigh_parents b xs rest)

-- "Check a rule"
unfoldable pub checking : List ℕ → Outcome Accepted
checking b =
    when (ltb (length b) 12) cut 0
    (when (not (eqb (get_or b 0 0) 1)) other_version 0
    (when (not (sizes_fit b)) size_out 0
    (when (not (eqb (length b) (12 + 20 * node_count b))) cut 0
    (weigh_nodes b (range 0 (node_count b))
    (weigh_parents b (range 0 (node_count b - 1))
    (given (record { reach = reach (pattern b); free = mask_of (free (pattern b)) })))))))

-- the answer is no refusal
abbrev pub is_accepted : Outcome Accepted → Bool
is_accepted (refused number place) = false
is_accepted (given a) = true
