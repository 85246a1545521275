-- Images of small logs, written out, as one table with one proof: from a rule's bytes, events' words and notices' times to the image's words; and words that are out of form by one thing each.
use Prim.Native.Nat.{ℕ}
use mathlib.Core.Path.{◌≡◌, refl}
use mathlib.Core.Bool.{true, false}
use mathlib.Core.List.{List, [], ◌∷◌, ◌++◌, map}
use lib.ListN.{replicate}
use Rattle.meaning.specs.Log.{size, time, rows_at, latest, log_of}
use Rattle.meaning.specs.RuleFile.{word_at, sizes_fit, head_at, body_at, node_of, node_at, formula_at, shape_fits, range_fits, times_child, weigh_node, checking}
use Rattle.meaning.specs.Kept.{last_pairs, consulted, parent_of, point_entries, age_entries, entries_of, entries}
use Rattle.meaning.specs.Event.{point_of}
use Rattle.meaning.specs.Keeper.{Fed, event, notice, taken_of}
use Rattle.method.specs.Stored.{held, held_pairs, stored_of}
use Rattle.method.specs.Counts.{until_count}
use Rattle.method.specs.Step.{wanted_from, counts_stored, count_before, open_stored}
use Rattle.method.specs.WellFormed.{own_entries, node_fits, well_formed}
use Rattle.image.specs.Image.{rule_words, image_of, rule_bytes, read_in, is_image}

-- the log of what was fed, none of which is refused
abbrev image_after : List ℕ → List Fed → List ℕ
image_after b fs = image_of (stored_of b (log_of (map (taken_of b) fs)))

-- "Rule L: leak (relation 0) and-not eventually [0, 61) close (relation 1)", and its words
abbrev rule_l : List ℕ
rule_l = 1 ∷ 2 ∷ 4 ∷ 0 ∷ 1 ∷ 1 ∷ 0 ∷ 0 ∷ 0 ∷ 0 ∷ 0 ∷ 0 ∷ 1 ∷ 0 ∷ 0 ∷ 0 ∷ 1 ∷ 1 ∷ 0 ∷ 0 ∷ 14 ∷ 1 ∷ 0 ∷ 0 ∷ 3 ∷ 0 ∷ 2 ∷ 0 ∷ 0 ∷ 0 ∷ 0 ∷ 0 ∷ 0 ∷ 0 ∷ 0 ∷ 0 ∷ 0 ∷ 0 ∷ 0 ∷ 0 ∷ 0 ∷ 0 ∷ 0 ∷ 0 ∷ 0 ∷ 0 ∷ 0 ∷ 0 ∷ 0 ∷ 0 ∷ 0 ∷ 0 ∷ 0 ∷ 0 ∷ 0 ∷ 0 ∷ 0 ∷ 0 ∷ 0 ∷ 0 ∷ 0 ∷ 0 ∷ 0 ∷ 0 ∷ 61 ∷ 0 ∷ 0 ∷ 0 ∷ 0 ∷ 0 ∷ 0 ∷ 0 ∷ 0 ∷ 0 ∷ 0 ∷ 0 ∷ 0 ∷ 0 ∷ 0 ∷ 0 ∷ 0 ∷ 0 ∷ 0 ∷ 0 ∷ 0 ∷ 0 ∷ 0 ∷ 0 ∷ 0 ∷ 0 ∷ 0 ∷ 0 ∷ []

abbrev words_l : List ℕ
words_l = 262657 ∷ 257 ∷ 0 ∷ 1 ∷ 257 ∷ 270 ∷ 131075 ∷ 0 ∷ 0 ∷ 0 ∷ 0 ∷ 0 ∷ 0 ∷ 0 ∷ 0 ∷ 0 ∷ 61 ∷ 0 ∷ 0 ∷ 0 ∷ 0 ∷ 0 ∷ 0 ∷ []

-- eventually [0, 11) once [0, 100) of relation 0, which has two columns, and its words
abbrev nested : List ℕ
nested = 1 ∷ 1 ∷ 3 ∷ 0 ∷ 2 ∷ 0 ∷ 0 ∷ 0 ∷ 0 ∷ 0 ∷ 0 ∷ 0 ∷ 1 ∷ 0 ∷ 0 ∷ 0 ∷ 13 ∷ 0 ∷ 0 ∷ 0 ∷ 14 ∷ 1 ∷ 0 ∷ 0 ∷ 0 ∷ 0 ∷ 0 ∷ 0 ∷ 1 ∷ 0 ∷ 0 ∷ 0 ∷ 0 ∷ 0 ∷ 0 ∷ 0 ∷ 0 ∷ 0 ∷ 0 ∷ 0 ∷ 0 ∷ 0 ∷ 0 ∷ 0 ∷ 100 ∷ 0 ∷ 0 ∷ 0 ∷ 0 ∷ 0 ∷ 0 ∷ 0 ∷ 0 ∷ 0 ∷ 0 ∷ 0 ∷ 0 ∷ 0 ∷ 0 ∷ 0 ∷ 11 ∷ 0 ∷ 0 ∷ 0 ∷ 0 ∷ 0 ∷ 0 ∷ 0 ∷ 0 ∷ 0 ∷ 0 ∷ 0 ∷ []

abbrev nested_words : List ℕ
nested_words = 196865 ∷ 2 ∷ 0 ∷ 1 ∷ 13 ∷ 270 ∷ 0 ∷ 1 ∷ 0 ∷ 0 ∷ 0 ∷ 100 ∷ 0 ∷ 0 ∷ 0 ∷ 11 ∷ 0 ∷ 0 ∷ []

abbrev leaks : Fed
leaks = event (100 ∷ 2 ∷ 0 ∷ 0 ∷ 7 ∷ 0 ∷ 0 ∷ 0 ∷ 9 ∷ 0 ∷ 0 ∷ 0 ∷ [])

abbrev close : Fed
close = event (130 ∷ 1 ∷ 1 ∷ 9 ∷ 0 ∷ 0 ∷ 0 ∷ [])

abbrev readings : Fed
readings = event (100 ∷ 3 ∷ 0 ∷ 0 ∷ 0 ∷ 3 ∷ 1 ∷ 0 ∷ 0 ∷ 3 ∷ 2 ∷ 0 ∷ 0 ∷ 1 ∷ 5 ∷ 0 ∷ 0 ∷ [])

abbrev reading : Fed
reading = event (104 ∷ 1 ∷ 0 ∷ 3 ∷ 4 ∷ 0 ∷ 0 ∷ [])

-- the entries of that rule after two points: the owners, and the values
abbrev owners : List ℕ
owners = 1 ∷ 0 ∷ 0 ∷ 1 ∷ 0 ∷ 0 ∷ 1 ∷ 0 ∷ 0 ∷ 1 ∷ 0 ∷ 1 ∷ 1 ∷ 0 ∷ 1 ∷ 1 ∷ 0 ∷ 1 ∷ 1 ∷ 0 ∷ 1 ∷ 1 ∷ 1 ∷ 0 ∷ 1 ∷ 1 ∷ 4 ∷ 1 ∷ 1 ∷ 4 ∷ 1 ∷ 1 ∷ 4 ∷ []

abbrev values : List ℕ
values = 1 ∷ 5 ∷ 0 ∷ 0 ∷ 3 ∷ 2 ∷ 0 ∷ 0 ∷ 3 ∷ 1 ∷ 0 ∷ 0 ∷ 1 ∷ 5 ∷ 0 ∷ 0 ∷ 3 ∷ 4 ∷ 0 ∷ 0 ∷ 3 ∷ 2 ∷ 0 ∷ 0 ∷ 3 ∷ 1 ∷ 0 ∷ 0 ∷ 3 ∷ 4 ∷ 0 ∷ 0 ∷ 1 ∷ 5 ∷ 0 ∷ 0 ∷ 3 ∷ 2 ∷ 0 ∷ 0 ∷ 3 ∷ 1 ∷ 0 ∷ 0 ∷ []

-- A start; "after a notice and no point n = 0, no time retained"; "A notice at 0 before any point and a fresh start have one image". Then rule L after 161: point 0 is the last that all nodes have settled, point 1 is open, and the latest known time is the notice's. Then rows at two points and pairs: by node, mark and number, and ties on the first value descend.
images : image_after rule_l [] ∷ image_after rule_l (notice 50 ∷ []) ∷ image_after rule_l (notice 0 ∷ []) ∷ image_after rule_l (leaks ∷ close ∷ notice 161 ∷ []) ∷ image_after nested (readings ∷ reading ∷ notice 107 ∷ []) ∷ []
    ≡ (1 ∷ 0 ∷ 0 ∷ 0 ∷ 0 ∷ words_l)
    ∷ (1 ∷ 0 ∷ 50 ∷ 0 ∷ 0 ∷ words_l)
    ∷ (1 ∷ 0 ∷ 0 ∷ 0 ∷ 0 ∷ words_l)
    ∷ (1 ∷ 2 ∷ 161 ∷ 1 ∷ 2 ∷ 1 ∷ 0 ∷ 1 ∷ 9 ∷ 0 ∷ 0 ∷ 0 ∷ 100 ∷ 130 ∷ words_l)
    ∷ ((1 ∷ 2 ∷ 107 ∷ 11 ∷ 2 ∷ []) ++ owners ++ values ++ (100 ∷ 104 ∷ []) ++ nested_words)
    ∷ []
unfolding size time rows_at latest log_of word_at node_of head_at body_at node_at formula_at last_pairs consulted parent_of point_entries age_entries entries_of entries point_of stored_of rule_words image_of
images = refl

-- rule L's image after 161 in parts: sizes but for the version, an owner, its values, and times
abbrev with : ℕ → List ℕ → List ℕ → List ℕ → List ℕ → List ℕ → List ℕ
with version sizes owner row times rule = version ∷ (sizes ++ owner ++ row ++ times ++ rule)

-- In form; then another version, a word behind the rule file, a word too few, a mark of 2, a value that isn't free, an age for a node that has none, the last point that all nodes have settled forgotten, the latest known time below the last retained, and a rule file twice, which checking refuses: all out of form.
forms : map is_image
    (with 1 (2 ∷ 161 ∷ 1 ∷ 2 ∷ []) (1 ∷ 0 ∷ 1 ∷ []) (9 ∷ 0 ∷ 0 ∷ 0 ∷ []) (100 ∷ 130 ∷ []) words_l
    ∷ with 2 (2 ∷ 161 ∷ 1 ∷ 2 ∷ []) (1 ∷ 0 ∷ 1 ∷ []) (9 ∷ 0 ∷ 0 ∷ 0 ∷ []) (100 ∷ 130 ∷ []) words_l
    ∷ with 1 (2 ∷ 161 ∷ 1 ∷ 2 ∷ []) (1 ∷ 0 ∷ 1 ∷ []) (9 ∷ 0 ∷ 0 ∷ 0 ∷ []) (100 ∷ 130 ∷ []) (words_l ++ 0 ∷ [])
    ∷ with 1 (2 ∷ 161 ∷ 1 ∷ 2 ∷ []) (1 ∷ 0 ∷ 1 ∷ []) (9 ∷ 0 ∷ 0 ∷ 0 ∷ []) (100 ∷ []) words_l
    ∷ with 1 (2 ∷ 161 ∷ 1 ∷ 2 ∷ []) (0 ∷ 2 ∷ 1 ∷ []) (9 ∷ 0 ∷ 0 ∷ 0 ∷ []) (100 ∷ 130 ∷ []) words_l
    ∷ with 1 (2 ∷ 161 ∷ 1 ∷ 2 ∷ []) (1 ∷ 0 ∷ 1 ∷ []) (9 ∷ 0 ∷ 1 ∷ 0 ∷ []) (100 ∷ 130 ∷ []) words_l
    ∷ with 1 (2 ∷ 161 ∷ 1 ∷ 2 ∷ []) (1 ∷ 1 ∷ 1 ∷ []) (9 ∷ 0 ∷ 0 ∷ 0 ∷ []) (100 ∷ 130 ∷ []) words_l
    ∷ with 1 (2 ∷ 161 ∷ 1 ∷ 1 ∷ []) (1 ∷ 0 ∷ 1 ∷ []) (9 ∷ 0 ∷ 0 ∷ 0 ∷ []) (130 ∷ []) words_l
    ∷ with 1 (2 ∷ 129 ∷ 1 ∷ 2 ∷ []) (1 ∷ 0 ∷ 1 ∷ []) (9 ∷ 0 ∷ 0 ∷ 0 ∷ []) (100 ∷ 130 ∷ []) words_l
    ∷ with 1 (2 ∷ 161 ∷ 1 ∷ 2 ∷ []) (1 ∷ 0 ∷ 1 ∷ []) (9 ∷ 0 ∷ 0 ∷ 0 ∷ []) (100 ∷ 130 ∷ []) (words_l ++ words_l)
    ∷ [])
    ≡ true ∷ replicate 9 false
unfolding word_at sizes_fit head_at body_at node_of node_at formula_at shape_fits range_fits times_child weigh_node checking parent_of held held_pairs until_count wanted_from counts_stored count_before open_stored own_entries node_fits well_formed image_of rule_words rule_bytes read_in is_image
forms = refl
