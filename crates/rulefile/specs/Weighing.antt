-- What the steps of `check` ask and answer: a file of the right length, its nodes weighed one by one, and how often each is a child.
use Rattle.std.specs.Prelude.{ℕ, ◌+◌, ◌-◌, ◌*◌, ◌≤◌, ◌<◌, ◌≡◌, Bool, cond, List, length, get_or, Result, Ok, Err, Option, Some, None}
use Rattle.meaning.specs.Lists.{range}
use Rattle.meaning.specs.Outcome.{Outcome, given}
use Rattle.meaning.specs.Formula.{free, reach}
use Rattle.meaning.specs.RuleFile.{Accepted, node_count, formula_at, shape_fits, range_fits, mask_of, pattern, times_child, weigh_nodes, weigh_parents}
use Rattle.meaning.specs.declared.Head.{Head}
use Rattle.meaning.specs.declared.Body.{Body}
use Rattle.meaning.specs.declared.Node.{Node}
use Rattle.ruleshape.specs.Sound.{NodeFits}
use Rattle.rulefree.specs.Mask.{node_mask, node_fits}
use Rattle.rulefile.specs.declared.RuleRefusal.{RuleRefusal}
use Rattle.rulefile.specs.declared.RuleRefusal.TheVariants.{Misshapen, WindowOut, FreeBroken}
use Rattle.rulefile.specs.Checked.{refusal_of}

-- the file has the length that its node count asks, and that count is in range
pub record Sized (b : List ℕ) : Type 0 where
  pub long : length b ≡ 12 + 20 * node_count b
  pub some : 1 ≤ node_count b
  pub few : node_count b ≤ 32

-- every node passes 4 and 5
pub record AllFit (b : List ℕ) : Type 0 where
  pub sized : Sized b
  pub each : (y : ℕ) → y < node_count b → NodeFits b y

-- what tests of shape, window and free variables say of node x, whose free variables are the mask m
abbrev pub weighed_by : Bool → Bool → Bool → ℕ → ℕ → Result ℕ RuleRefusal
weighed_by shape window free x m =
    cond shape (cond window (cond free (Ok m) (Err (FreeBroken x))) (Err (WindowOut x))) (Err (Misshapen x))

-- node x, of this head and body, weighed with the masks of the nodes below it
abbrev pub weighing : List ℕ → ℕ → Head → Body → Node → List ℕ → Result ℕ RuleRefusal
weighing b x h w n masks = weighed_by (shape_fits b x h w) (range_fits h w) (node_fits masks n) x (node_mask masks n)

-- the list has the mask of each node's free variables
abbrev pub Masked : List ℕ → List ℕ → Type 0
Masked b masks = (x : ℕ) → x < node_count b → get_or masks x 0 ≡ mask_of (free (formula_at b x))

-- what "Check a rule" says where every node passes 4 to 6: 7, and then the answer; and what it says from the nodes on
abbrev pub after_nodes : List ℕ → Outcome Accepted
after_nodes b = weigh_parents b (range 0 (node_count b - 1)) (given (record { reach = reach (pattern b); free = mask_of (free (pattern b)) }))

abbrev pub from_nodes : List ℕ → Outcome Accepted
from_nodes b = weigh_nodes b (range 0 (node_count b)) (after_nodes b)

-- what is weighed tells the answer o, the reach apart
abbrev pub Tells : List ℕ → List ℕ → Outcome Accepted → Result ℕ RuleRefusal → Type 0
Tells b masks o (Ok m) = (o ≡ given (record { reach = reach (pattern b); free = m })) × Masked b masks
Tells b masks o (Err r) = o ≡ refusal_of r

-- every node passes 4 to 6, the lists have the mask of each and how often it is a child, and m is the pattern's mask
pub record NodesPass (b masks uses : List ℕ) (m : ℕ) : Type 0 where
  pub passed : from_nodes b ≡ after_nodes b
  pub known : Masked b masks
  pub counted : (y : ℕ) → get_or uses y 0 ≡ times_child b y
  pub mask : m ≡ mask_of (free (pattern b))

-- all nodes weighed
abbrev pub NodesWeighed : List ℕ → List ℕ → List ℕ → Result ℕ RuleRefusal → Type 0
NodesWeighed b masks uses (Ok m) = NodesPass b masks uses m
NodesWeighed b masks uses (Err r) = Tells b masks (from_nodes b) (Err r)

-- the lowest node below n whose count isn't 1
abbrev pub FirstStray : List ℕ → ℕ → Option ℕ → Type 0
FirstStray uses n (Some y) = (y < n) × ((z : ℕ) → z < y → get_or uses z 0 ≡ 1) × (get_or uses y 0 ≡ 1 → ⊥)
FirstStray uses n None = (z : ℕ) → z < n → get_or uses z 0 ≡ 1
