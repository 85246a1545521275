-- `kind_fits` meets its contract: only since's pairs are told, and they are told by the window of the node.
use Prim.Native.Nat.{ℕ, suc, ◌-◌, ◌<◌}
use native.Mathlib.Omega.{arith}
use mathlib.Core.Path.{◌≡◌, refl, sym, ap, ◌∙◌}
use mathlib.Core.Bool.{Bool, false, ◌&&◌}
use mathlib.Core.List.{List}
use Rattle.meaning.specs.Lists.{all}
use Rattle.meaning.specs.Order.{ascending}
use Rattle.meaning.specs.Formula.{free, lowest_of}
use Rattle.meaning.specs.View.{view_of}
use Rattle.meaning.specs.RuleFile.{window_of, bodies, body_at, node_at, formula_at}
use Rattle.meaning.specs.declared.Window.{Window}
use Rattle.meaning.specs.declared.Body.{Body}
use Rattle.meaning.specs.declared.Times.{Times}
use Rattle.meaning.specs.declared.Times.TheVariants.{Here, Before, After, Past, Future}
use Rattle.method.specs.Settle.{has_pairs}
use Rattle.method.specs.WellFormed.{pair_fits, pairs_fit}
use Rattle.rulenodes.proofs.Windows.{window_read}
use Rattle.kinds.specs.Kinds.{pairs_from}
use Rattle.formed.specs.Tests.{MaskOf, aged_fit}
use Rattle.formed.proofs.NoPairs.{pairs-some}
use Rattle.formed.proofs.Masks.{aged_same}
use Rattle.formed.proofs.kind_fits.Goals as goal

other : {t : Times} → t ≡ Past → t ≡ Here → ⊥
other p h = let z : ◌≡◌ {A = ℕ} 0 1 = cc in absurd (omega arith)

-- since's pairs
fits : (b : List ℕ) (x mask : ℕ) (ps : List (List ℕ)) → MaskOf b x mask → {t : Times} {body : Body} {r : Bool} → t ≡ (view_of (node_at b x)).times → t ≡ Past → body ≡ body_at (bodies b) x
    → r ≡ aged_fit mask (window_of body) ps → r ≡ pairs_fit b x (view_of (node_at b x)) ps
fits b x mask ps is {body = body} e f p q =
    let past : (view_of (node_at b x)).times ≡ Past = sym e ∙ f in
    rw past
    (q ∙ aged_same is (window_of body) ps
    ∙ ap (λ (w : Window). ascending (suc (lowest_of (free (formula_at b x)))) ps && all (pair_fits b x w) ps) (ap window_of p ∙ sym (window_read b x (other past))))

-- pairs of another node
none_but_past : (t : Times) → (t ≡ Past → ⊥) → has_pairs t ≡ false
none_but_past Here n = refl
none_but_past Before n = refl
none_but_past After n = refl
none_but_past Past n = absurd (n refl)
none_but_past Future n = refl

other_fails : (b ns vs : List ℕ) (x from to : ℕ) → from < to → {t : Times} → t ≡ (view_of (node_at b x)).times → (t ≡ Past → ⊥)
    → false ≡ pairs_fit b x (view_of (node_at b x)) (pairs_from ns vs from (to - from))
other_fails b ns vs x from to l {t} e n = pairs-some b x (view_of (node_at b x)) ns vs from to l (sym e) (none_but_past t n)

pub returns-in_default : goal.returns-in_default
returns-in_default c = let a = c.args in other_fails a.rule.now a.numbers.now a.values.now a.x a.from a.to c.requires.from_lt_to.0 c.times_at.ensures c.in_default.not-Past

pub returns : goal.returns
returns c = fits c.args.rule.now c.args.x c.args.mask (pairs_from c.args.numbers.now c.args.values.now c.args.from (c.args.to - c.args.from)) c.requires.rule_len.2 c.times_at.ensures c.in-Past.is c.body_of-body.ensures c.aged_fit.ensures
