-- "Listing program": the lines that are printed, as bytes of ASCII.
use Rattle.std.specs.Prelude.{ℕ, zero, suc, ◌+◌, ◌/◌, ◌%◌, cond, List, [], ◌∷◌, ◌++◌, ltb}
use Rattle.meaning.specs.Lists.{gather}
use Rattle.meaning.specs.declared.Point.{Point}
use Rattle.meaning.specs.declared.Stamp.{Stamp}

-- "Figures are decimal": the digits of a number, of which there are at most so many, with no zero in front
abbrev pub digits_within : ℕ → ℕ → List ℕ
digits_within zero n = []
digits_within (suc most) n = cond (ltb n 10) ((48 + n) ∷ []) (digits_within most (n / 10) ++ (48 + n % 10) ∷ [])

-- a word has at most ten
unfoldable pub decimal : ℕ → List ℕ
decimal n = digits_within 10 n

-- some words, and a figure behind them
abbrev pub figure : List ℕ → ℕ → List ℕ
figure words n = words ++ decimal n

-- `rule ok reach `
abbrev pub rule_ok_reach : List ℕ
rule_ok_reach = 114 ∷ 117 ∷ 108 ∷ 101 ∷ 32 ∷ 111 ∷ 107 ∷ 32 ∷ 114 ∷ 101 ∷ 97 ∷ 99 ∷ 104 ∷ 32 ∷ []

-- `refused `, ` place `
abbrev pub refused_word : List ℕ
refused_word = 114 ∷ 101 ∷ 102 ∷ 117 ∷ 115 ∷ 101 ∷ 100 ∷ 32 ∷ []

abbrev pub place_word : List ℕ
place_word = 32 ∷ 112 ∷ 108 ∷ 97 ∷ 99 ∷ 101 ∷ 32 ∷ []

-- `point `, ` time `, ` rows `
abbrev pub point_word : List ℕ
point_word = 112 ∷ 111 ∷ 105 ∷ 110 ∷ 116 ∷ 32 ∷ []

abbrev pub time_word : List ℕ
time_word = 32 ∷ 116 ∷ 105 ∷ 109 ∷ 101 ∷ 32 ∷ []

abbrev pub rows_word : List ℕ
rows_word = 32 ∷ 114 ∷ 111 ∷ 119 ∷ 115 ∷ 32 ∷ []

-- `open `, ` kept `
abbrev pub open_word : List ℕ
open_word = 111 ∷ 112 ∷ 101 ∷ 110 ∷ 32 ∷ []

abbrev pub kept_word : List ℕ
kept_word = 32 ∷ 107 ∷ 101 ∷ 112 ∷ 116 ∷ 32 ∷ []

abbrev pub space : List ℕ
space = 32 ∷ []

abbrev pub line_end : List ℕ
line_end = 10 ∷ []

-- "An accepted one prints `rule ok reach` and its reach"
unfoldable pub accepted_line : ℕ → List ℕ
accepted_line reach = figure rule_ok_reach reach ++ line_end

-- "`refused`, number, `place`, place"
unfoldable pub refused_line : ℕ → ℕ → List ℕ
refused_line number place = figure refused_word number ++ figure place_word place ++ line_end

-- "Each reported point prints `point`, its number, `time`, its time, `rows`, its row count"
unfoldable pub point_line : Point → Stamp → ℕ → List ℕ
point_line i t rows = figure point_word i.0 ++ figure time_word t.0 ++ figure rows_word rows ++ line_end

-- "the last line, `open` and `kept` with their figures"
unfoldable pub last_line : ℕ → ℕ → List ℕ
last_line unsettled kept = figure open_word unsettled ++ figure kept_word kept ++ line_end

-- "values parted by a space"
abbrev pub values_text : List ℕ → List ℕ
values_text [] = []
values_text (v ∷ vs) = decimal v ++ gather (figure space) vs

-- "rows are one line each .. A rule with F = 0 prints an empty line as its row"
unfoldable pub row_line : List ℕ → List ℕ
row_line row = values_text row ++ line_end
