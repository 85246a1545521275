-- A rule file's bytes as words, and back.
use Prim.Native.Nat.{ℕ, zero, suc, ◌+◌, ◌*◌, ◌/◌, ◌%◌, ◌<◌}
use native.Mathlib.Omega.{arith}
use mathlib.Core.Path.{◌≡◌, refl, sym, ◌∙◌, ap, ap₂}
use mathlib.Core.List.{List, [], ◌∷◌, map}
use lib.ListN.{length, get_or, length-map}
use lib.Arith.{digits_div, digits_mod, mod-mul}
use lib.Seq.{take_all}
use Rattle.meaning.specs.Lists.{range, gather}
use Rattle.meaning.specs.RuleFile.{word_at}
use Rattle.meaning.proofs.Lists.{range_length}
use Rattle.method.proofs.Lists.{gather_length, gather_map}
use Rattle.entries.proofs.Listed.{listed_moved}
use Rattle.image.specs.Image.{rule_words, bytes_of, rule_bytes}
use Rattle.image.specs.ImageLaws.{Bytes, Words}
use Rattle.image.proofs.Flat.{flat, row_at_lem}

-- four bytes as a word have these bytes, and a word's bytes make that word
word_bytes : (a b c d : ℕ) → a < 256 → b < 256 → c < 256 → d < 256 → bytes_of (a + 256 * b + 65536 * c + 16777216 * d) ≡ a ∷ b ∷ c ∷ d ∷ []
word_bytes a b c d ka kb kc kd =
    let w : ℕ = a + 256 * b + 65536 * c + 16777216 * d in
    let ea : w ≡ (b + 256 * c + 65536 * d) * 256 + a = omega arith in
    let eb : b + 256 * c + 65536 * d ≡ (c + 256 * d) * 256 + b = omega arith in
    let ec : w ≡ (c + 256 * d) * 65536 + (a + 256 * b) = omega arith in
    let ed : c + 256 * d ≡ d * 256 + c = omega arith in
    let ee : w ≡ d * 16777216 + (a + 256 * b + 65536 * c) = omega arith in
    let ef : d ≡ 0 * 256 + d = omega arith in
    let fa : w % 256 ≡ a = ap (λ n. n % 256) ea ∙ digits_mod (b + 256 * c + 65536 * d) ka in
    let fb : w / 256 % 256 ≡ b = ap (λ n. n / 256 % 256) ea ∙ ap (λ n. n % 256) (digits_div (b + 256 * c + 65536 * d) ka ∙ eb) ∙ digits_mod (c + 256 * d) kb in
    let fc : w / 65536 % 256 ≡ c = ap (λ n. n / 65536 % 256) ec ∙ ap (λ n. n % 256) (digits_div (c + 256 * d) {m = 65536} (omega arith) ∙ ed) ∙ digits_mod d kc in
    let fd : w / 16777216 % 256 ≡ d = ap (λ n. n / 16777216 % 256) ee ∙ ap (λ n. n % 256) (digits_div d {m = 16777216} (omega arith) ∙ ef) ∙ digits_mod 0 kd in
    ap₂ (λ x xs. x ∷ xs) fa (ap₂ (λ x xs. x ∷ xs) fb (ap₂ (λ x xs. x ∷ xs) fc (ap (λ x. x ∷ []) fd)))

bytes_word : (w : ℕ) → w < 4294967296 → w % 256 + 256 * (w / 256 % 256) + 65536 * (w / 65536 % 256) + 16777216 * (w / 16777216 % 256) ≡ w
bytes_word w l =
    let z : w ≡ 0 * 4294967296 + w = omega arith in
    let e : w % 4294967296 ≡ w = ap (λ n. n % 4294967296) z ∙ digits_mod 0 l in
    let f : w % 4294967296 ≡ (w / 16777216 % 256) * 16777216 + w % 16777216 = mod-mul w {m = 256} {c = 16777216} (omega arith) (omega arith) in
    let g : w % 16777216 ≡ (w / 65536 % 256) * 65536 + w % 65536 = mod-mul w {m = 256} {c = 65536} (omega arith) (omega arith) in
    let h : w % 65536 ≡ (w / 256 % 256) * 256 + w % 256 = mod-mul w {m = 256} {c = 256} (omega arith) (omega arith) in
    omega arith

words_long : (b : List ℕ) (m : ℕ) → length b ≡ m * 4 → (length b + 3) / 4 ≡ m
words_long b m e = omega arith

pub words_many : (b : List ℕ) (m : ℕ) → length b ≡ m * 4 → length (rule_words b) ≡ m
unfolding rule_words
words_many b m e = length-map (range 0 ((length b + 3) / 4)) (λ k. word_at b (k * 4)) ∙ range_length 0 ((length b + 3) / 4) ∙ words_long b m e

-- ---- from bytes to words and back

pub bytes_back : (b : List ℕ) (m : ℕ) → length b ≡ m * 4 → Bytes b → rule_bytes (rule_words b) ≡ b
unfolding rule_bytes rule_words word_at
bytes_back b m e s =
    ap (λ n. gather bytes_of (map (λ k. word_at b (k * 4)) (range 0 n))) (words_long b m e)
    ∙ gather_map bytes_of (λ k. word_at b (k * 4)) (range 0 m)
    ∙ flat 4 b (λ k. bytes_of (word_at b (k * 4))) m (λ k l. word_bytes (get_or b (k * 4) 0) (get_or b (k * 4 + 1) 0) (get_or b (k * 4 + 2) 0) (get_or b (k * 4 + 3) 0) (s (k * 4)) (s (k * 4 + 1)) (s (k * 4 + 2)) (s (k * 4 + 3)) ∙ sym (row_at_lem b k (omega arith)))
    ∙ take_all (m * 4) b (omega arith)

-- ---- from words to bytes and back

pub bytes_long : (ws : List ℕ) → length (rule_bytes ws) ≡ length ws * 4
unfolding rule_bytes
bytes_long ws = omega (arith, gather_length bytes_of 4 (λ w. refl) ws)

one_more : (a b c d : ℕ) (bs : List ℕ) (k : ℕ) → word_at (a ∷ b ∷ c ∷ d ∷ bs) ((1 + k) * 4) ≡ word_at bs ((0 + k) * 4)
unfolding word_at
one_more a b c d bs k =
    let e : (1 + k) * 4 ≡ suc (suc (suc (suc (k * 4)))) = omega arith in
    let z : (0 + k) * 4 ≡ k * 4 = omega arith in
    let g : (i : ℕ) → suc (suc (suc (suc (k * 4)))) + i ≡ suc (suc (suc (suc (k * 4 + i)))) = λ i. omega arith in
    rw (e, z, g 1, g 2, g 3)

each_back : (ws : List ℕ) → Words ws → map (λ k. word_at (rule_bytes ws) (k * 4)) (range 0 (length ws)) ≡ ws
unfolding rule_bytes word_at
each_back [] t = refl
each_back (w ∷ ws) t =
    ap₂ (λ v vs. v ∷ vs) (bytes_word w (t 0))
    (listed_moved (λ k. word_at (rule_bytes (w ∷ ws)) (k * 4)) (λ k. word_at (rule_bytes ws) (k * 4)) 1 0 (length ws) (λ k l. one_more (w % 256) (w / 256 % 256) (w / 65536 % 256) (w / 16777216 % 256) (rule_bytes ws) k) ∙ each_back ws (λ k. t (suc k)))

pub words_back : (ws : List ℕ) → Words ws → rule_words (rule_bytes ws) ≡ ws
unfolding rule_words
words_back ws s = ap (λ n. map (λ k. word_at (rule_bytes ws) (k * 4)) (range 0 n)) (words_long (rule_bytes ws) (length ws) (bytes_long ws)) ∙ each_back ws s

-- what is read off words are bytes
pub bytes_read : (ws : List ℕ) → Bytes (rule_bytes ws)
unfolding rule_bytes
bytes_read [] k = omega arith
bytes_read (w ∷ ws) zero = omega arith
bytes_read (w ∷ ws) (suc zero) = omega arith
bytes_read (w ∷ ws) (suc (suc zero)) = omega arith
bytes_read (w ∷ ws) (suc (suc (suc zero))) = omega arith
bytes_read (w ∷ ws) (suc (suc (suc (suc k)))) = bytes_read ws k
