-- How long the texts at the end of a run are at most.
use Prim.Native.Nat.{ℕ, ◌≤◌}
use native.Mathlib.Omega.{arith}
use lib.ListN.{length}
use Rattle.meaning.specs.Outcome.{Outcome, refused, given}
use Rattle.method.specs.Stored.{Stored}
use Rattle.method.specs.Step.{kept_stored}
use Rattle.figures.specs.Fronts.{open_answer}
use Rattle.lines.specs.declared.input.Next.{Next}
use Rattle.lines.specs.declared.input.Next.TheVariants.{Event, Cut, Ended}
use Rattle.lines.proofs.Lines.{refused_short, last_short}
use Rattle.listing.specs.Ends.{cut_text, figures_line, figures_text}

pub cut_short : (next : Next) → length (cut_text next) ≤ 36
cut_short Cut = refused_short 9 0
cut_short (Event n) = omega arith
cut_short Ended = omega arith

pub figures_short : (s : Stored) → length (figures_text s) ≤ 64
unfolding figures_text
figures_short s = go (open_answer s)
  where
    go : (o : Outcome ℕ) → length (figures_line o (kept_stored s)) ≤ 64
    go (given unsettled) = omega (arith, last_short unsettled (kept_stored s))
    go (refused number place) = omega (arith, refused_short number place)
