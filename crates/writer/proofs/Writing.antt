-- A report written part by part from the front of a buffer.
use Prim.Native.Nat.{ℕ, ◌+◌, ◌-◌, ◌≤◌}
use native.Mathlib.Omega.{arith}
use mathlib.Core.Path.{◌≡◌, sym, ap}
use mathlib.Core.List.{List, ◌++◌}
use Rattle.std.specs.Prelude.{Result, Ok}
use lib.ListN.{length, length-append}
use denote.Ref.{MutBor}
use borrow.Author.Tests.{le-ltb}
use Rattle.writer.specs.declared.Part.{Part}
use Rattle.writer.specs.declared.Part.TheVariants.{Sizes, Triples, Rows}
use Rattle.writer.specs.declared.Points.{Points}
use Rattle.writer.specs.declared.Writer.{Writer}
use Rattle.writer.specs.declared.Short.{Short}
use Rattle.writer.specs.Puts.{Put, wrote, written_to}
use Rattle.writer.specs.Words.{part_words, words, Marked}
use Rattle.writer.proofs.Putting.{put_long, put_then, put_front}
use Rattle.writer.proofs.Reports.{words_parts}

-- what `write` says of its answer and of the buffer then
abbrev pub Answers : List ℕ → List ℕ → Result ℕ Short → List ℕ → Type 0
Answers report buffer r after = (r ≡ wrote report buffer) × (after ≡ written_to report buffer)

-- three parts, one after the other, by a writer that is made on a buffer and asked for the words that it has left
module _ (rows marks times : List ℕ) (p : Points) (stand : Marked marks p) (w : Writer) {buf : MutBor (List ℕ)} (made : (w.buf ≡ buf) × (w.at ≡ 0)) {needed : ℕ} (asked : needed ≡ length (words rows marks times p)) (enough : needed ≤ length w.buf.now - w.at) where
  abbrev report : List ℕ
  report = words rows marks times p

  abbrev part : Part → List ℕ
  part t = part_words t rows marks times p

  parts : report ≡ part Sizes ++ (part Triples ++ part Rows)
  parts = words_parts rows marks times p stand

  lengths : length report ≡ length (part Sizes) + (length (part Triples) + length (part Rows))
  lengths = rw (parts, length-append (part Sizes) (part Triples ++ part Rows), length-append (part Triples) (part Rows))

  on : w.buf.now ≡ buf.now
  on = ap (λ (b : MutBor (List ℕ)). b.now) made.0

  long : length report ≤ length buf.now
  long = omega (arith, asked, enough, ap length on)

  pub first_fits : w.at + length (part Sizes) ≤ length w.buf.now
  first_fits = omega (arith, asked, enough, lengths, made.1)

  module _ {b₁ : List ℕ} {n₁ : ℕ} (first : Put w.buf.now w.at (part Sizes) b₁ n₁) where
    pub second_fits : n₁ + length (part Triples) ≤ length b₁
    second_fits = omega (arith, asked, enough, lengths, made.1, first.place, put_long first)

    module _ {b₂ : List ℕ} {n₂ : ℕ} (second : Put b₁ n₁ (part Triples) b₂ n₂) where
      pub third_fits : n₂ + length (part Rows) ≤ length b₂
      third_fits = omega (arith, asked, enough, lengths, made.1, first.place, put_long first, second.place, put_long second)

      pub all_written : {b₃ : List ℕ} {n₃ : ℕ} → Put b₂ n₂ (part Rows) b₃ n₃ → Answers report buf.now (Ok n₃) b₃
      all_written {b₃} {n₃} third =
          let put : Put w.buf.now w.at (part Sizes ++ (part Triples ++ part Rows)) b₃ n₃ = put_then first (put_then second third) in
          let front = put_front (rw (on, made.1, sym parts) at put) long in
          let fits = le-ltb (length buf.now) (length report) long in
          (rw fits (ap Ok front.0), rw fits front.1)
