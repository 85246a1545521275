-- What an operation answers: a refusal with its number and place, or what was asked for. The numbers and the limits of 01, each once.
use Rattle.std.specs.Prelude.{ℕ, ◌+◌, ◌*◌, Bool, true, false}

pub data Outcome (A : Type 0) : Type 0 where
  refused : ℕ → ℕ → Outcome A
  given : A → Outcome A

-- "The first that applies is given": the refusal where the test holds, else what follows
abbrev pub when : {A : Type 0} → Bool → ℕ → ℕ → Outcome A → Outcome A
when true number place rest = refused number place
when false number place rest = rest

-- "Check a rule"
abbrev pub cut : ℕ
cut = 1

abbrev pub other_version : ℕ
other_version = 2

abbrev pub size_out : ℕ
size_out = 3

abbrev pub misshapen : ℕ
misshapen = 4

abbrev pub window_out : ℕ
window_out = 5

abbrev pub free_broken : ℕ
free_broken = 6

abbrev pub not_one_parent : ℕ
not_one_parent = 7

-- "Take an event"
abbrev pub not_well_formed : ℕ
not_well_formed = 8

abbrev pub not_an_event : ℕ
not_an_event = 9

abbrev pub row_out : ℕ
row_out = 10

abbrev pub time_falls : ℕ
time_falls = 11

abbrev pub log_full : ℕ
log_full = 12

abbrev pub crowded : ℕ
crowded = 13

abbrev pub backlog : ℕ
backlog = 14

abbrev pub kept_over : ℕ
kept_over = 15

abbrev pub buffer_short : ℕ
buffer_short = 16

-- "Read rows"
abbrev pub not_a_report : ℕ
not_a_report = 17

-- #104: reading an image in, and saving
abbrev pub not_an_image : ℕ
not_an_image = 18

abbrev pub output_short : ℕ
output_short = 19

-- the limits
-- "node count N (1 to 32)", and the 12 + 20N bytes of a rule with so many nodes
abbrev pub most_nodes : ℕ
most_nodes = 32

abbrev pub most_bytes : ℕ
most_bytes = 12 + 20 * most_nodes

-- "m above 32", "over 32 valuations at a point"
abbrev pub most_rows : ℕ
most_rows = 32

-- "over 32 points unsettled for the last node"
abbrev pub most_open : ℕ
most_open = 32

-- "kept over 512"
abbrev pub most_kept : ℕ
most_kept = 512

-- "10,000,000 points already"
abbrev pub most_points : ℕ
most_points = 10000000

-- "P points (0 to 33)"
abbrev pub most_reported : ℕ
most_reported = 33

abbrev pub longest_window : ℕ
longest_window = 604800
