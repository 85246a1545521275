-- How a run ends: what is printed where no further event is read.
use Rattle.std.specs.Prelude.{List, [], ◌++◌, ℕ}
use Rattle.meaning.specs.Outcome.{Outcome, refused, given, not_an_event}
use Rattle.method.specs.Stored.{Stored}
use Rattle.method.specs.Step.{kept_stored}
use Rattle.figures.specs.Fronts.{open_answer}
use Rattle.lines.specs.Text.{refused_line, last_line}
use Rattle.lines.specs.declared.input.Next.{Next}
use Rattle.lines.specs.declared.input.Next.TheVariants.{Event, Cut, Ended}

-- "for m above 32 or a cut event it prints `refused 9 place 0`, stops reading"
abbrev pub cut_text : Next → List ℕ
cut_text Cut = refused_line not_an_event 0
cut_text (Event n) = []
cut_text Ended = []

-- "the end of input prints the last line, `open` and `kept` with their figures as they then stand"; a state that isn't well formed, which no start leads to, has no figures and prints its refusal
abbrev pub figures_line : Outcome ℕ → ℕ → List ℕ
figures_line (given unsettled) entries = last_line unsettled entries
figures_line (refused number place) entries = refused_line number place

unfoldable pub figures_text : Stored → List ℕ
figures_text s = figures_line (open_answer s) (kept_stored s)

abbrev pub end_text : Next → Stored → List ℕ
end_text next s = cut_text next ++ figures_text s
