-- The claim about a whole list of exported takings holds: it is a list of calls with no save and no restore in it.
use Prim.Native.Nat.{ℕ}
use mathlib.Core.Path.{◌≡◌, refl, sym, ◌∙◌, ap, subst}
use mathlib.Core.List.{List, [], ◌∷◌, map, Memᴰ}
use Rattle.meaning.specs.Outcome.{given}
use Rattle.meaning.specs.RuleFile.{Accepted, checking}
use Rattle.meaning.specs.Keeper.{Taking}
use Rattle.monitor.specs.State.{lent_of}
use Rattle.monitor.specs.Reports.{taken_over}
use Rattle.monitor.specs.Cuts.{Act, taking}
use Rattle.monitor.specs.declared.State.{State}
use Rattle.monitor.proofs.Reports.{reports}
use Rattle.monitor.proofs.Cuts.{Asks}
use Rattle.monitor.proofs.CutList.{FromStart, kept_then, open_then}
use Rattle.monitor.proofs.WholeList.{asks_nothing, TakenFromStart, takings_from_start}
use Rattle.yokemango.specs.Numbers.{start_parts}
use Rattle.yokemango.specs.ExportedList.{ExportedCall, ExportedCalls, taking_of, back_of, told_given, ExportedList}
use Rattle.yokemango.specs.ExportedCuts.{took, ExportedCuts, act_of, back_cut}
use Rattle.yokemango.specs.declared.StartParts.{StartParts}
use Rattle.yokemango.proofs.ExportedCuts.{figures_then, TellsFromStart, told_from_start}

cut_calls : (s : State) (xs : List ExportedCall) (s' : State) → ExportedCalls s xs s' → ExportedCuts s [] (map took xs) s'
cut_calls s [] s' e = e
cut_calls s (x ∷ xs) s' (t, r) = (t, cut_calls x.state xs s' r)

acts_are : (xs : List ExportedCall) → map act_of (map took xs) ≡ map taking (map taking_of xs)
acts_are [] = refl
acts_are (x ∷ xs) = ap (λ acts. taking (taking_of x) ∷ acts) (acts_are xs)

backs_are : (xs : List ExportedCall) → map back_cut (map took xs) ≡ map back_of xs
backs_are [] = refl
backs_are (x ∷ xs) = ap (λ qs. back_of x ∷ qs) (backs_are xs)

pub exported_list : (b : List ℕ) (r : StartParts) → r ≡ start_parts b → (a : Accepted) → checking b ≡ given a
    → (xs : List ExportedCall) (s : State) → ExportedCalls r.state xs s → ExportedList b a xs s
exported_list b r start a ok xs s calls =
    let ts : List Taking = map taking_of xs in
    let asks : (act : Act) → Memᴰ act (map act_of (map took xs)) → Asks b act = λ act e. asks_nothing b ts act (subst (Memᴰ act) (acts_are xs) e) in
    let q : TellsFromStart b a ok (map act_of (map took xs)) (map back_cut (map took xs)) (lent_of s) = told_from_start b r start a ok (map took xs) s (cut_calls r.state xs s calls) asks in
    let k : TakenFromStart b ts q.gives (lent_of s) = takings_from_start b a ok ts q.gives (lent_of s) (subst (λ acts. FromStart b a ok acts q.gives (lent_of s)) (acts_are xs) q.all) in
    record {
      answers = sym (backs_are xs) ∙ q.tells ∙ ap (map told_given) k.answers;
      reports = reports b a ok ts;
      figures = figures_then (lent_of s) k.stores.fits (kept_then b a ok (taken_over b ts) (ts, refl) (lent_of s) k.stores) (open_then b a ok (taken_over b ts) (ts, refl) (lent_of s) k.stores);
    }
