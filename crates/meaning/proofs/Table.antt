-- The starred bench cases of 01, and cases that guard what meaning and evaluator share, as one table with one proof: from a rule's bytes, events' words and notices' times to the report's words and the kept figures, by the keeper's definitions.
use Prim.Native.Nat.{ℕ, ◌+◌, ◌*◌, ◌/◌, ◌%◌}
use mathlib.Core.Path.{◌≡◌, refl}
use mathlib.Core.Bool.{not}
use mathlib.Core.List.{List, [], ◌∷◌, ◌++◌, map}
use lib.ListN.{length, get_or, take, drop, replicate}
use lib.Dec.{eqb}
use Rattle.meaning.specs.Lists.{any, range, gather}
use Rattle.meaning.specs.Outcome.{Outcome, refused, given}
use Rattle.meaning.specs.Log.{Log, Taken, size, time, rows_at, latest, log_of}
use Rattle.meaning.specs.Formula.{without_next}
use Rattle.meaning.specs.RuleFile.{Accepted, node_count, pattern, word_at, sizes_fit, head_at, body_at, node_of, node_at, formula_at, shape_fits, range_fits, times_child, weigh_node, checking}
use Rattle.meaning.specs.Kept.{last_pairs, consulted, parent_of, point_entries, age_entries, entries_of, entries, kept, open_points}
use Rattle.meaning.specs.Event.{is_event, row_fits, point_of}
use Rattle.meaning.specs.Report.{report_words}
use Rattle.meaning.specs.Keeper.{Fed, event as event_of, notice, Taking, Given, newly_settled, reported, report, admitted, weighed, crowded_at, answer_on, step, answered, keeper_log, keeper}

-- A case: a rule, what is fed, and what is expected.
pub record Case : Type 0 where
  pub rule : List ℕ
  pub fed : List Fed
  -- what checking answers: the reach and the free variables
  pub checked : Outcome Accepted
  -- what each taking is given back: the answer, and every word of its buffer
  pub givens : List Given
  -- the kept figure after each taking
  pub kepts : List ℕ
  -- the `open` figure after the last
  pub left : ℕ

-- Each taking's buffer: 18 words, none of which a report has.
abbrev room : List ℕ
room = range 1000 18

abbrev takings : Case → List Taking
takings c = map (λ f. record { fed = f; buffer = room }) c.fed

abbrev events : List (List ℕ) → List Fed
events = map event_of

-- a report's words, and behind them the buffer as it was; a refusal, and the whole buffer as it was
abbrev written : List ℕ → Given
written words = record { answer = given (length words); buffer = words ++ drop (length words) room }

abbrev turned : ℕ → ℕ → Given
turned number place = record { answer = refused number place; buffer = room }

abbrev logs : List ℕ → List Taken → List Taking → List Log
logs b es [] = []
logs b es (t ∷ ts) = log_of (step b es t) ∷ logs b (step b es t) ts

-- the case with what the definitions give in the place of what is expected
abbrev pub run : Case → Case
run c =
    record {
      rule = c.rule;
      fed = c.fed;
      checked = checking c.rule;
      givens = keeper c.rule [] (takings c);
      kepts = map (kept c.rule) (logs c.rule [] (takings c));
      left = open_points c.rule (log_of (keeper_log c.rule [] (takings c)));
    }

-- Rule files and events, spelt out: a head, a body of words, a size line.
abbrev word : ℕ → List ℕ
word w = w % 256 ∷ w / 256 % 256 ∷ w / 65536 % 256 ∷ w / 16777216 ∷ []

abbrev body : ℕ → ℕ → List ℕ
body c d = word c ++ word d ++ word 0 ++ word 0

abbrev head : ℕ → ℕ → ℕ → List ℕ
head kind left right = kind ∷ left ∷ right ∷ 0 ∷ []

-- two relations and their arities, and so many nodes
abbrev sizes : ℕ → ℕ → ℕ → List ℕ
sizes a a' n = 1 ∷ 2 ∷ n ∷ 0 ∷ a ∷ a' ∷ 0 ∷ 0 ∷ 0 ∷ 0 ∷ 0 ∷ 0 ∷ []

abbrev atoms : List ℕ
atoms = head 1 0 0 ++ head 1 1 0

-- relation 0 and relation 1 without columns, and a kind over both, or over the first
abbrev binary : ℕ → ℕ → ℕ → List ℕ
binary kind c d = sizes 0 0 3 ++ atoms ++ head kind 0 1 ++ body 0 0 ++ body 0 0 ++ body c d

abbrev unary : ℕ → ℕ → ℕ → List ℕ
unary kind c d = sizes 0 0 2 ++ head 1 0 0 ++ head kind 0 0 ++ body 0 0 ++ body c d

-- two atoms and their "and": relation 0 of variables 0 and 1, relation 1 of variables 1 and 2
abbrev join_heads : List ℕ
join_heads = atoms ++ head 2 0 1

abbrev join_bodies : List ℕ
join_bodies = body 0 1 ++ body 1 2 ++ body 0 0

-- an event at a time, of rows that are a relation and its columns; of rows without columns; of rows of one column
abbrev event : ℕ → List (List ℕ) → List ℕ
event t rows = t ∷ length rows ∷ (map (λ r. get_or r 0 0) rows ++ gather (λ r. take 4 (drop 1 r ++ word 0)) rows)

abbrev facts : ℕ → List ℕ → List ℕ
facts t rs = event t (map (λ r. r ∷ []) rs)

abbrev columns : ℕ → List ℕ → List (List ℕ)
columns r vs = map (λ v. r ∷ v ∷ []) vs

-- "Rule L: leak (relation 0) and-not eventually [0, 61) close (relation 1), both of variable 0: node 0 leak, 1 close, 2 eventually, 3 and-not"
abbrev rule_l : List ℕ
rule_l = sizes 1 1 4 ++ atoms ++ head 14 1 0 ++ head 3 0 2 ++ body 0 0 ++ body 0 0 ++ body 0 61 ++ body 0 0

-- its leak alone
abbrev leaking : List ℕ
leaking = sizes 1 1 1 ++ head 1 0 0 ++ body 0 0

abbrev leak : ℕ
leak = 0

abbrev close : ℕ
close = 1

abbrev leaks : List ℕ
leaks = 100 ∷ 2 ∷ leak ∷ leak ∷ 7 ∷ 0 ∷ 0 ∷ 0 ∷ 9 ∷ 0 ∷ 0 ∷ 0 ∷ []

abbrev one : ℕ → ℕ → ℕ → List ℕ
one t r v = t ∷ 1 ∷ r ∷ v ∷ 0 ∷ 0 ∷ 0 ∷ []

-- no point settled; a point with no row; a point with one row of no words
abbrev none : ℕ → Given
none f = written (0 ∷ f ∷ 0 ∷ [])

abbrev denied : ℕ → ℕ → Given
denied i t = written (1 ∷ 0 ∷ 0 ∷ i ∷ t ∷ 0 ∷ [])

abbrev met : ℕ → ℕ → Given
met i t = written (1 ∷ 0 ∷ 1 ∷ i ∷ t ∷ 1 ∷ [])

abbrev reaching : ℕ → ℕ → Outcome Accepted
reaching r f = given (record { reach = r; free = f })

-- relation 0 of two columns, kept by a comparison of the two
abbrev comparing : ℕ → List ℕ
comparing comparison = sizes 2 0 2 ++ head 1 0 0 ++ head 4 0 comparison ++ body 0 1 ++ body 0 1

-- the same, kept where the first and k make less than the second; and where two constants do
abbrev shifting : ℕ → List ℕ
shifting k = sizes 2 0 2 ++ head 1 0 0 ++ head 15 0 0 ++ body 0 1 ++ word 0 ++ word 1 ++ word k ++ word 0

abbrev constants : ℕ → ℕ → ℕ → List ℕ
constants k c d = sizes 2 0 2 ++ head 1 0 0 ++ (15 ∷ 0 ∷ 0 ∷ 3 ∷ []) ++ body 0 1 ++ word c ++ word d ++ word k ++ word 0

-- such a rule on one event's rows
abbrev compared : List ℕ → List (List ℕ) → List ℕ → Case
compared b rows words =
    record {
      rule = b;
      fed = events (event 3 (map (λ r. 0 ∷ r) rows) ∷ []);
      checked = reaching 0 3;
      givens = written words ∷ [];
      kepts = 0 ∷ [];
      left = 0;
    }

abbrev keeping : ℕ → List ℕ → Case
keeping comparison = compared (comparing comparison) ((1 ∷ 2 ∷ []) ∷ (2 ∷ 1 ∷ []) ∷ (2 ∷ 2 ∷ []) ∷ [])

-- a kind with [0, 5) over relation 0 of variable 0 and relation 1 of variables 0 and 1: left is asked for its own variable alone
abbrev asking : ℕ → ℕ → List Given → List ℕ → ℕ → Case
asking kind reach givens kepts left =
    record {
      rule = sizes 1 2 3 ++ atoms ++ head kind 0 1 ++ body 0 0 ++ body 0 1 ++ body 0 5;
      fed = events (event 10 ((0 ∷ 1 ∷ []) ∷ []) ∷ event 12 ((1 ∷ 1 ∷ 2 ∷ []) ∷ (1 ∷ 3 ∷ 4 ∷ []) ∷ []) ∷ event 13 ((0 ∷ 1 ∷ []) ∷ []) ∷ event 20 [] ∷ []);
      checked = reaching reach 3;
      givens = givens;
      kepts = kepts;
      left = left;
    }

-- a rule alone, and what checking answers; a rule with another byte at one place; a rule with another byte at each of some places in turn, which 4 refuses at node x
abbrev checks : List ℕ → Outcome Accepted → Case
checks b answer = record { rule = b; fed = []; checked = answer; givens = []; kepts = []; left = 0 }

abbrev changed : List ℕ → ℕ → ℕ → Outcome Accepted → Case
changed b at byte answer = checks (take at b ++ byte ∷ drop (at + 1) b) answer

abbrev spoilt : List ℕ → ℕ → ℕ → List ℕ → List Case
spoilt b x byte places = map (λ at. changed b at byte (refused 4 x)) places

-- a kind over eventually [0, 5) and eventually [0, 3)
abbrev over : ℕ → ℕ → ℕ → List ℕ
over kind c d = sizes 0 0 5 ++ atoms ++ head 14 0 0 ++ head 14 1 0 ++ head kind 2 3 ++ body 0 0 ++ body 0 0 ++ body 0 5 ++ body 0 3 ++ body c d

-- exists of rule L's leak
abbrev existing : List ℕ
existing = sizes 1 1 2 ++ head 1 0 0 ++ head 6 0 0 ++ body 0 0 ++ body 0 0

-- "Check a rule"
abbrev rules : List Case
rules =
    -- 1 to 3: cut, longer; version; R, N, the zero byte, arities
    checks (take 11 rule_l) (refused 1 0)
    ∷ checks (rule_l ++ 0 ∷ []) (refused 1 0)
    ∷ changed rule_l 0 2 (refused 2 0)
    ∷ changed rule_l 1 0 (refused 3 0)
    ∷ changed rule_l 1 8 (reaching 61 1)
    ∷ changed rule_l 1 9 (refused 3 0)
    ∷ changed rule_l 2 0 (refused 3 0)
    ∷ changed rule_l 2 33 (refused 3 0)
    ∷ changed rule_l 3 1 (refused 3 0)
    ∷ changed rule_l 4 5 (refused 3 0)
    ∷ changed rule_l 11 1 (refused 3 0)
    -- 32 nodes: 31 times "previous" over an atom
    ∷ checks (sizes 0 0 32 ++ head 1 0 0 ++ gather (λ x. head 7 x 0) (range 0 31) ++ body 0 0 ++ gather (λ x. body 0 0) (range 0 31)) (reaching 0 0)
    -- 6 and 7: variables of and-not and of exists; a child twice, and one never
    ∷ changed rule_l 44 1 (refused 6 3)
    ∷ changed existing 36 1 (refused 6 1)
    ∷ changed rule_l 26 1 (refused 7 1)
    ∷ checks (sizes 0 0 3 ++ atoms ++ head 13 1 0 ++ body 0 0 ++ body 0 0 ++ body 0 5) (refused 7 0)
    -- 4 before 5 before 6, of one node
    ∷ changed (unary 13 5 5) 18 1 (refused 4 1)
    ∷ checks (sizes 1 2 3 ++ atoms ++ head 9 1 0 ++ body 0 0 ++ body 0 1 ++ body 5 5) (refused 5 2)
    ∷ checks (sizes 1 2 3 ++ atoms ++ head 9 1 0 ++ body 0 0 ++ body 0 1 ++ body 0 5) (refused 6 2)
    -- 5: windows at 01's limits, without length, without end
    ∷ checks (unary 13 0 604800) (reaching 0 0)
    ∷ checks (unary 13 0 604801) (refused 5 1)
    ∷ checks (unary 13 604799 0) (reaching 0 0)
    ∷ checks (unary 13 604800 0) (refused 5 1)
    ∷ map (λ kind. checks (unary kind 5 5) (refused 5 1)) (7 ∷ 8 ∷ 13 ∷ 14 ∷ [])
    ++ map (λ kind. checks (binary kind 5 5) (refused 5 2)) (9 ∷ 10 ∷ 11 ∷ 12 ∷ [])
    ++ map (λ kind. checks (unary kind 5 0) (reaching 0 0)) (7 ∷ 8 ∷ 13 ∷ [])
    ++ map (λ kind. checks (binary kind 5 0) (reaching 0 0)) (9 ∷ 10 ∷ [])
    ++ map (λ kind. checks (binary kind 5 0) (refused 5 2)) (11 ∷ 12 ∷ [])
    ++ map (λ kind. checks (unary kind 5 0) (refused 5 1)) (14 ∷ [])
    -- 4 of an atom, and, keep, keep-shifted, exists, once and since: kind, child, relation, variable, comparison, and each field that isn't named
    ++ spoilt rule_l 0 16 (12 ∷ [])
    ++ spoilt rule_l 0 2 (13 ∷ 15 ∷ [])
    ++ spoilt rule_l 0 16 (15 ∷ [])
    ++ spoilt rule_l 0 4 (28 ∷ [])
    ++ spoilt rule_l 0 1 (14 ∷ 32 ∷ 36 ∷ 40 ∷ [])
    ++ spoilt (binary 2 0 0) 2 2 (21 ∷ 22 ∷ [])
    ++ spoilt (binary 2 0 0) 2 1 (23 ∷ 56 ∷ 60 ∷ 64 ∷ 68 ∷ [])
    ++ spoilt (comparing 2) 1 4 (18 ∷ 19 ∷ 36 ∷ 40 ∷ [])
    ++ spoilt (comparing 2) 1 1 (17 ∷ 44 ∷ 48 ∷ [])
    ++ spoilt (shifting 250) 1 4 (36 ∷ 40 ∷ [])
    ++ spoilt (shifting 250) 1 1 (17 ∷ 18 ∷ 48 ∷ [])
    ++ map (λ mask. changed (shifting 250) 19 mask (refused 4 1)) (4 ∷ 8 ∷ 16 ∷ 32 ∷ 64 ∷ 128 ∷ [])
    ++ map (λ at. changed (shifting 250) at 2 (refused 6 1)) (36 ∷ 40 ∷ [])
    ++ spoilt existing 1 4 (36 ∷ [])
    ++ spoilt existing 1 1 (17 ∷ 18 ∷ 19 ∷ 40 ∷ 44 ∷ 48 ∷ [])
    ++ spoilt (unary 13 0 5) 1 1 (17 ∷ 18 ∷ 19 ∷ 44 ∷ 48 ∷ [])
    ++ spoilt (binary 9 0 5) 2 2 (21 ∷ 22 ∷ [])
    ++ spoilt (binary 9 0 5) 2 1 (23 ∷ 64 ∷ 68 ∷ [])
    -- reach: "d plus the greatest reach of their children; any other node has its children's greatest"
    ++ map (λ kind. checks (over kind 0 0) (reaching 5 0)) (2 ∷ 3 ∷ 5 ∷ [])
    ++ map (λ kind. checks (over kind 0 2) (reaching 5 0)) (9 ∷ 10 ∷ [])
    ++ map (λ kind. checks (over kind 0 2) (reaching 7 0)) (11 ∷ 12 ∷ [])
    ++ checks (sizes 0 0 3 ++ head 1 0 0 ++ head 14 0 0 ++ head 8 1 0 ++ body 0 0 ++ body 0 5 ++ body 0 2) (reaching 5 0)
    ∷ checks (sizes 2 0 3 ++ head 1 0 0 ++ head 14 0 0 ++ head 15 1 0 ++ body 0 1 ++ body 0 5 ++ body 0 1) (reaching 5 3) ∷ []

abbrev pub cases : List Case
cases =
    -- "L above; kept after its events is 2, 3, 2, 2"
    record {
      rule = rule_l;
      fed = events (leaks ∷ one 130 close 9 ∷ one 161 close 7 ∷ one 191 leak 9 ∷ []);
      checked = reaching 61 1;
      givens = none 1 ∷ none 1 ∷ written (1 ∷ 1 ∷ 1 ∷ 0 ∷ 100 ∷ 1 ∷ 7 ∷ []) ∷ written (1 ∷ 1 ∷ 0 ∷ 1 ∷ 130 ∷ 0 ∷ []) ∷ [];
      kepts = 2 ∷ 3 ∷ 2 ∷ 2 ∷ [];
      left = 2;
    }
    -- "Closing 7 at 160 instead reports no row for point 0, when 191 settles it"
    ∷ record {
      rule = rule_l;
      fed = events (leaks ∷ one 130 close 9 ∷ one 160 close 7 ∷ one 191 leak 9 ∷ []);
      checked = reaching 61 1;
      givens = none 1 ∷ none 1 ∷ none 1 ∷ written (2 ∷ 1 ∷ 0 ∷ 0 ∷ 100 ∷ 0 ∷ 1 ∷ 130 ∷ 0 ∷ []) ∷ [];
      kepts = 2 ∷ 3 ∷ 4 ∷ 2 ∷ [];
      left = 2;
    }
    -- "until [0, 5): right true, left false at the same point: satisfied"
    ∷ record {
      rule = binary 11 0 5;
      fed = events (facts 10 (1 ∷ []) ∷ facts 15 [] ∷ []);
      checked = reaching 5 0;
      givens = none 0 ∷ met 0 10 ∷ [];
      kepts = 1 ∷ 0 ∷ [];
      left = 1;
    }
    -- "since [0, 5): right at 10, left at 14 (age 4): yes"
    ∷ record {
      rule = binary 9 0 5;
      fed = events (facts 10 (1 ∷ []) ∷ facts 14 (0 ∷ []) ∷ []);
      checked = reaching 0 0;
      givens = met 0 10 ∷ met 1 14 ∷ [];
      kepts = 1 ∷ 1 ∷ [];
      left = 0;
    }
    -- "Left at 15, no point between: no"
    ∷ record {
      rule = binary 9 0 5;
      fed = events (facts 10 (1 ∷ []) ∷ facts 15 (0 ∷ []) ∷ []);
      checked = reaching 0 0;
      givens = met 0 10 ∷ denied 1 15 ∷ [];
      kepts = 1 ∷ 0 ∷ [];
      left = 0;
    }
    -- "Left missing at 14: no"
    ∷ record {
      rule = binary 9 0 5;
      fed = events (facts 10 (1 ∷ []) ∷ facts 14 [] ∷ []);
      checked = reaching 0 0;
      givens = met 0 10 ∷ denied 1 14 ∷ [];
      kepts = 1 ∷ 0 ∷ [];
      left = 0;
    }
    -- "previous [1, 3) over times 10 and 10: no; .. point 0: no"
    ∷ record {
      rule = unary 7 1 3;
      fed = events (facts 10 (0 ∷ []) ∷ facts 10 [] ∷ []);
      checked = reaching 0 0;
      givens = denied 0 10 ∷ denied 1 10 ∷ [];
      kepts = 1 ∷ 0 ∷ [];
      left = 0;
    }
    -- point 0 has none before it, whatever the window
    ∷ record {
      rule = unary 7 0 3;
      fed = events (facts 10 (0 ∷ []) ∷ facts 10 [] ∷ []);
      checked = reaching 0 0;
      givens = denied 0 10 ∷ met 1 10 ∷ [];
      kepts = 1 ∷ 0 ∷ [];
      left = 0;
    }
    -- "10 and 12: yes"
    ∷ record {
      rule = unary 7 1 3;
      fed = events (facts 10 (0 ∷ []) ∷ facts 12 [] ∷ []);
      checked = reaching 0 0;
      givens = denied 0 10 ∷ met 1 12 ∷ [];
      kepts = 1 ∷ 0 ∷ [];
      left = 0;
    }
    -- "10 and 13: no"
    ∷ record {
      rule = unary 7 1 3;
      fed = events (facts 10 (0 ∷ []) ∷ facts 13 [] ∷ []);
      checked = reaching 0 0;
      givens = denied 0 10 ∷ denied 1 13 ∷ [];
      kepts = 1 ∷ 0 ∷ [];
      left = 0;
    }
    -- "until [2, 4), left at 0 and 1, right at 2: point 0, settled by a point at 4, yes. Point 1, settled by a further point at 5, no"
    ∷ record {
      rule = binary 11 2 4;
      fed = events (facts 0 (0 ∷ []) ∷ facts 1 (0 ∷ []) ∷ facts 2 (1 ∷ []) ∷ facts 4 [] ∷ facts 5 [] ∷ []);
      checked = reaching 4 0;
      givens = none 0 ∷ none 0 ∷ none 0 ∷ met 0 0 ∷ denied 1 1 ∷ [];
      kepts = 1 ∷ 2 ∷ 3 ∷ 2 ∷ 1 ∷ [];
      left = 3;
    }
    -- "once [5, 10), atom at 0 and 4, asked at 6: yes": the age 4 at the last point isn't the only one kept
    ∷ record {
      rule = unary 13 5 10;
      fed = events (facts 0 (0 ∷ []) ∷ facts 4 (0 ∷ []) ∷ facts 6 [] ∷ []);
      checked = reaching 0 0;
      givens = denied 0 0 ∷ denied 1 4 ∷ met 2 6 ∷ [];
      kepts = 1 ∷ 2 ∷ 2 ∷ [];
      left = 0;
    }
    -- with no end, ages above c count as c: 5 and 9 are one pair
    ∷ record {
      rule = unary 13 5 0;
      fed = events (facts 0 (0 ∷ []) ∷ facts 4 (0 ∷ []) ∷ facts 9 [] ∷ []);
      checked = reaching 0 0;
      givens = denied 0 0 ∷ denied 1 4 ∷ met 2 9 ∷ [];
      kepts = 1 ∷ 2 ∷ 1 ∷ [];
      left = 0;
    }
    -- events with equal times are separate points: left missing at the second breaks since, and not-since asks for that
    ∷ record {
      rule = binary 9 0 5;
      fed = events (facts 10 (1 ∷ []) ∷ facts 10 [] ∷ []);
      checked = reaching 0 0;
      givens = met 0 10 ∷ denied 1 10 ∷ [];
      kepts = 1 ∷ 0 ∷ [];
      left = 0;
    }
    ∷ record {
      rule = binary 10 0 5;
      fed = events (facts 10 (1 ∷ []) ∷ facts 10 [] ∷ facts 10 (0 ∷ []) ∷ []);
      checked = reaching 0 0;
      givens = met 0 10 ∷ met 1 10 ∷ denied 2 10 ∷ [];
      kepts = 1 ∷ 1 ∷ 0 ∷ [];
      left = 0;
    }
    -- next [1, 3) over 10, 12 and 15, and a fall in time, refused with 11
    ∷ record {
      rule = unary 8 1 3;
      fed = events (facts 10 [] ∷ facts 12 (0 ∷ []) ∷ facts 11 [] ∷ facts 15 (0 ∷ []) ∷ []);
      checked = reaching 0 0;
      givens = none 0 ∷ met 0 10 ∷ turned 11 0 ∷ denied 1 12 ∷ [];
      kepts = 0 ∷ 0 ∷ 0 ∷ 0 ∷ [];
      left = 1;
    }
    -- "Newest zone first under one valve": variable 0 ascends, rows that tie on it descend by variable 1, and a repeated row counts as one
    ∷ record {
      rule = 1 ∷ 1 ∷ 1 ∷ 0 ∷ 2 ∷ 0 ∷ 0 ∷ 0 ∷ 0 ∷ 0 ∷ 0 ∷ 0 ∷ (head 1 0 0 ++ body 0 1);
      fed = events (event 3 ((0 ∷ 2 ∷ 1 ∷ []) ∷ (0 ∷ 1 ∷ 5 ∷ []) ∷ (0 ∷ 1 ∷ 3 ∷ []) ∷ (0 ∷ 2 ∷ 1 ∷ []) ∷ []) ∷ []);
      checked = reaching 0 3;
      givens = written (1 ∷ 2 ∷ 3 ∷ 0 ∷ 3 ∷ 3 ∷ 1 ∷ 5 ∷ 1 ∷ 3 ∷ 2 ∷ 1 ∷ []) ∷ [];
      kepts = 0 ∷ [];
      left = 0;
    }
    -- "Rows that tie on the lowest free variable now descend by each later variable in turn": three variables, with ties on the first, and on the first two
    ∷ record {
      rule = sizes 3 0 1 ++ head 1 0 0 ++ word 0 ++ word 1 ++ word 2 ++ word 0;
      fed = events (event 3 ((0 ∷ 1 ∷ 2 ∷ 3 ∷ []) ∷ (0 ∷ 1 ∷ 2 ∷ 5 ∷ []) ∷ (0 ∷ 1 ∷ 4 ∷ 1 ∷ []) ∷ (0 ∷ 0 ∷ 9 ∷ 9 ∷ []) ∷ []) ∷ []);
      checked = reaching 0 7;
      givens = written (1 ∷ 3 ∷ 4 ∷ 0 ∷ 3 ∷ 4 ∷ 0 ∷ 9 ∷ 9 ∷ 1 ∷ 4 ∷ 1 ∷ 1 ∷ 2 ∷ 5 ∷ 1 ∷ 2 ∷ 3 ∷ []) ∷ [];
      kepts = 0 ∷ [];
      left = 0;
    }
    -- "By the node's own free variables, not by the four stored words": of variables 1 and 3, 1 ascends and 3 descends
    ∷ record {
      rule = sizes 2 0 1 ++ head 1 0 0 ++ body 1 3;
      fed = events (event 3 ((0 ∷ 1 ∷ 5 ∷ []) ∷ (0 ∷ 1 ∷ 7 ∷ []) ∷ (0 ∷ 0 ∷ 9 ∷ []) ∷ (0 ∷ 2 ∷ 6 ∷ []) ∷ []) ∷ []);
      checked = reaching 0 10;
      givens = written (1 ∷ 2 ∷ 4 ∷ 0 ∷ 3 ∷ 4 ∷ 0 ∷ 9 ∷ 1 ∷ 7 ∷ 1 ∷ 5 ∷ 2 ∷ 6 ∷ []) ∷ [];
      kepts = 0 ∷ [];
      left = 0;
    }
    -- keep: "0 equal, 1 different, 2 less, 3 not less"
    ∷ keeping 0 (1 ∷ 2 ∷ 1 ∷ 0 ∷ 3 ∷ 1 ∷ 2 ∷ 2 ∷ [])
    ∷ keeping 1 (1 ∷ 2 ∷ 2 ∷ 0 ∷ 3 ∷ 2 ∷ 1 ∷ 2 ∷ 2 ∷ 1 ∷ [])
    ∷ keeping 2 (1 ∷ 2 ∷ 1 ∷ 0 ∷ 3 ∷ 1 ∷ 1 ∷ 2 ∷ [])
    ∷ keeping 3 (1 ∷ 2 ∷ 2 ∷ 0 ∷ 3 ∷ 2 ∷ 2 ∷ 2 ∷ 2 ∷ 1 ∷ [])
    -- keep-shifted: "where the first term + k < the second, over whole numbers", with k of 250, −250, −2,147,483,648 and 2,147,483,647, terms at 0 and 4,294,967,295, and equal sums, which don't satisfy it
    ∷ compared (shifting 250) ((0 ∷ 250 ∷ []) ∷ (0 ∷ 251 ∷ []) ∷ (4294967295 ∷ 4294967295 ∷ []) ∷ (4294967045 ∷ 4294967295 ∷ []) ∷ (4294967044 ∷ 4294967295 ∷ []) ∷ (4294967295 ∷ 0 ∷ []) ∷ (0 ∷ 0 ∷ []) ∷ []) (1 ∷ 2 ∷ 2 ∷ 0 ∷ 3 ∷ 2 ∷ 0 ∷ 251 ∷ 4294967044 ∷ 4294967295 ∷ [])
    ∷ compared (shifting 4294967046) ((250 ∷ 0 ∷ []) ∷ (249 ∷ 0 ∷ []) ∷ (0 ∷ 0 ∷ []) ∷ (0 ∷ 4294967295 ∷ []) ∷ (4294967295 ∷ 4294967045 ∷ []) ∷ (4294967295 ∷ 4294967046 ∷ []) ∷ (4294967295 ∷ 0 ∷ []) ∷ []) (1 ∷ 2 ∷ 4 ∷ 0 ∷ 3 ∷ 4 ∷ 0 ∷ 4294967295 ∷ 0 ∷ 0 ∷ 249 ∷ 0 ∷ 4294967295 ∷ 4294967046 ∷ [])
    ∷ compared (shifting 2147483648) ((2147483648 ∷ 0 ∷ []) ∷ (2147483647 ∷ 0 ∷ []) ∷ (0 ∷ 0 ∷ []) ∷ (0 ∷ 4294967295 ∷ []) ∷ (4294967295 ∷ 0 ∷ []) ∷ (4294967295 ∷ 2147483647 ∷ []) ∷ (4294967295 ∷ 2147483648 ∷ []) ∷ (4294967295 ∷ 4294967295 ∷ []) ∷ []) (1 ∷ 2 ∷ 5 ∷ 0 ∷ 3 ∷ 5 ∷ 0 ∷ 4294967295 ∷ 0 ∷ 0 ∷ 2147483647 ∷ 0 ∷ 4294967295 ∷ 4294967295 ∷ 4294967295 ∷ 2147483648 ∷ [])
    ∷ compared (shifting 2147483647) ((0 ∷ 2147483647 ∷ []) ∷ (0 ∷ 2147483648 ∷ []) ∷ (0 ∷ 0 ∷ []) ∷ (0 ∷ 4294967295 ∷ []) ∷ (4294967295 ∷ 0 ∷ []) ∷ (4294967295 ∷ 4294967295 ∷ []) ∷ (2147483648 ∷ 4294967295 ∷ []) ∷ (2147483647 ∷ 4294967295 ∷ []) ∷ []) (1 ∷ 2 ∷ 3 ∷ 0 ∷ 3 ∷ 3 ∷ 0 ∷ 4294967295 ∷ 0 ∷ 2147483648 ∷ 2147483647 ∷ 4294967295 ∷ [])
    -- two constants: 0 and 250 make less than 251, and not less than 250
    ∷ compared (constants 250 0 251) ((5 ∷ 5 ∷ []) ∷ []) (1 ∷ 2 ∷ 1 ∷ 0 ∷ 3 ∷ 1 ∷ 5 ∷ 5 ∷ [])
    ∷ compared (constants 250 0 250) ((5 ∷ 5 ∷ []) ∷ []) (1 ∷ 2 ∷ 0 ∷ 0 ∷ 3 ∷ 0 ∷ [])
    -- and: rows that agree where both have the variable, here variable 1
    ∷ record {
      rule = sizes 2 2 3 ++ join_heads ++ join_bodies;
      fed = events (event 3 ((0 ∷ 1 ∷ 2 ∷ []) ∷ (0 ∷ 3 ∷ 4 ∷ []) ∷ (1 ∷ 2 ∷ 6 ∷ []) ∷ (1 ∷ 2 ∷ 5 ∷ []) ∷ (1 ∷ 9 ∷ 9 ∷ []) ∷ []) ∷ []);
      checked = reaching 0 7;
      givens = written (1 ∷ 3 ∷ 2 ∷ 0 ∷ 3 ∷ 2 ∷ 1 ∷ 2 ∷ 6 ∷ 1 ∷ 2 ∷ 5 ∷ []) ∷ [];
      kepts = 0 ∷ [];
      left = 0;
    }
    -- exists: the same without variable 1, so that two rows become one
    ∷ record {
      rule = sizes 2 2 4 ++ join_heads ++ head 6 2 0 ++ join_bodies ++ body 1 0;
      fed = events (event 3 ((0 ∷ 1 ∷ 2 ∷ []) ∷ (0 ∷ 1 ∷ 4 ∷ []) ∷ (1 ∷ 2 ∷ 6 ∷ []) ∷ (1 ∷ 4 ∷ 6 ∷ []) ∷ (1 ∷ 4 ∷ 5 ∷ []) ∷ []) ∷ []);
      checked = reaching 0 5;
      givens = written (1 ∷ 2 ∷ 2 ∷ 0 ∷ 3 ∷ 2 ∷ 1 ∷ 6 ∷ 1 ∷ 5 ∷ []) ∷ [];
      kepts = 0 ∷ [];
      left = 0;
    }
    -- or: the rows of both, one that both have once
    ∷ record {
      rule = sizes 1 1 3 ++ atoms ++ head 5 0 1 ++ body 0 0 ++ body 0 0 ++ body 0 0;
      fed = events (event 3 (columns 0 (3 ∷ 2 ∷ []) ++ columns 1 (1 ∷ 3 ∷ [])) ∷ []);
      checked = reaching 0 1;
      givens = written (1 ∷ 1 ∷ 3 ∷ 0 ∷ 3 ∷ 3 ∷ 1 ∷ 2 ∷ 3 ∷ []) ∷ [];
      kepts = 0 ∷ [];
      left = 0;
    }
    -- not-until [0, 5): right at 11 and 13, left at 12; 18 settles four points at once
    ∷ record {
      rule = binary 12 0 5;
      fed = events (facts 10 [] ∷ facts 11 (1 ∷ []) ∷ facts 12 (0 ∷ []) ∷ facts 13 (1 ∷ []) ∷ facts 18 [] ∷ []);
      checked = reaching 5 0;
      givens = none 0 ∷ none 0 ∷ none 0 ∷ none 0 ∷ written (4 ∷ 0 ∷ 3 ∷ 0 ∷ 10 ∷ 1 ∷ 1 ∷ 11 ∷ 1 ∷ 2 ∷ 12 ∷ 0 ∷ 3 ∷ 13 ∷ 1 ∷ []) ∷ [];
      kepts = 0 ∷ 1 ∷ 2 ∷ 3 ∷ 0 ∷ [];
      left = 1;
    }
    -- "9: under 2 words, m above 32, or wrong length"; 32 rows are taken. "10: a relation not below R or an unused column not 0; place is the first such row". "11: time below the last point's"
    ∷ record {
      rule = leaking;
      fed =
          events ((5 ∷ []) ∷ (5 ∷ 1 ∷ leak ∷ 7 ∷ 0 ∷ 0 ∷ []) ∷ event 5 (columns leak (replicate 33 7)) ∷ event 5 (columns leak (replicate 32 7))
          ∷ event 5 ((leak ∷ 7 ∷ []) ∷ (leak ∷ 7 ∷ 0 ∷ 0 ∷ 1 ∷ []) ∷ (2 ∷ 7 ∷ []) ∷ []) ∷ event 5 ((2 ∷ 7 ∷ []) ∷ []) ∷ one 4 leak 7 ∷ []);
      checked = reaching 0 1;
      givens = turned 9 0 ∷ turned 9 0 ∷ turned 9 0 ∷ written (1 ∷ 1 ∷ 1 ∷ 0 ∷ 5 ∷ 1 ∷ 7 ∷ []) ∷ turned 10 1 ∷ turned 10 0 ∷ turned 11 0 ∷ [];
      kepts = 0 ∷ 0 ∷ 0 ∷ 0 ∷ 0 ∷ 0 ∷ 0 ∷ [];
      left = 0;
    }
    -- "13, some node has over 32 valuations", the "and" of 4 × 8 rows and of 3 × 11
    ∷ record {
      rule = sizes 1 1 4 ++ join_heads ++ head 6 2 0 ++ body 0 0 ++ body 1 0 ++ body 0 0 ++ body 1 0;
      fed = events (event 5 (columns 0 (range 1 4) ++ columns 1 (range 1 8)) ∷ event 5 (columns 0 (range 1 3) ++ columns 1 (range 1 11)) ∷ []);
      checked = reaching 0 1;
      givens = written (1 ∷ 1 ∷ 4 ∷ 0 ∷ 5 ∷ 4 ∷ 1 ∷ 2 ∷ 3 ∷ 4 ∷ []) ∷ turned 13 2 ∷ [];
      kepts = 0 ∷ 0 ∷ [];
      left = 0;
    }
    -- "16, report buffer too short, place the words needed": a report of 18 words fits, one of 19 doesn't
    ∷ record {
      rule = leaking;
      fed = events (event 5 (columns leak (range 1 13)) ∷ event 5 (columns leak (range 1 12)) ∷ []);
      checked = reaching 0 1;
      givens = turned 16 19 ∷ written (1 ∷ 1 ∷ 12 ∷ 0 ∷ 5 ∷ 12 ∷ range 1 12) ∷ [];
      kepts = 0 ∷ 0 ∷ [];
      left = 0;
    }
    -- notices: "before any, every time is accepted", and an event of an equal time; rule L's leak at 100 isn't settled at 160 and is at 161; an event and a notice "below the latest known time" meet 11, and "an equal time is accepted, again and again"
    ∷ record {
      rule = rule_l;
      fed = notice 100 ∷ event_of leaks ∷ notice 160 ∷ notice 161 ∷ event_of (one 160 close 7) ∷ notice 161 ∷ notice 160 ∷ [];
      checked = reaching 61 1;
      givens = none 1 ∷ none 1 ∷ none 1 ∷ written (1 ∷ 1 ∷ 2 ∷ 0 ∷ 100 ∷ 2 ∷ 7 ∷ 9 ∷ []) ∷ turned 11 0 ∷ none 1 ∷ turned 11 0 ∷ [];
      kepts = 0 ∷ 2 ∷ 2 ∷ 0 ∷ 0 ∷ 0 ∷ 0 ∷ [];
      left = 0;
    }
    -- ""next" is never settled by a notice, however late"
    ∷ record {
      rule = unary 8 0 0;
      fed = event_of (facts 10 (0 ∷ [])) ∷ notice 4000000000 ∷ event_of (facts 4000000000 (0 ∷ [])) ∷ [];
      checked = reaching 0 0;
      givens = none 0 ∷ none 0 ∷ met 0 10 ∷ [];
      kepts = 0 ∷ 0 ∷ 0 ∷ [];
      left = 1;
    }
    -- "the clock ages nothing": once [0, 5) keeps its pair of age 0 after a notice at 14, and at an event at 14 it is 4 old
    ∷ record {
      rule = unary 13 0 5;
      fed = event_of (facts 10 (0 ∷ [])) ∷ notice 14 ∷ event_of (facts 14 []) ∷ notice 20 ∷ event_of (facts 20 []) ∷ [];
      checked = reaching 0 0;
      givens = met 0 10 ∷ none 0 ∷ met 1 14 ∷ none 0 ∷ denied 2 20 ∷ [];
      kepts = 1 ∷ 1 ∷ 1 ∷ 1 ∷ 0 ∷ [];
      left = 0;
    }
    -- since, not-since, until, not-until where left has fewer variables; and-not where right has
    ∷ asking 9 0 (written (1 ∷ 2 ∷ 0 ∷ 0 ∷ 10 ∷ 0 ∷ []) ∷ written (1 ∷ 2 ∷ 2 ∷ 1 ∷ 12 ∷ 2 ∷ 1 ∷ 2 ∷ 3 ∷ 4 ∷ []) ∷ written (1 ∷ 2 ∷ 1 ∷ 2 ∷ 13 ∷ 1 ∷ 1 ∷ 2 ∷ []) ∷ written (1 ∷ 2 ∷ 0 ∷ 3 ∷ 20 ∷ 0 ∷ []) ∷ []) (0 ∷ 2 ∷ 1 ∷ 0 ∷ []) 0
    ∷ asking 10 0 (written (1 ∷ 2 ∷ 0 ∷ 0 ∷ 10 ∷ 0 ∷ []) ∷ written (1 ∷ 2 ∷ 2 ∷ 1 ∷ 12 ∷ 2 ∷ 1 ∷ 2 ∷ 3 ∷ 4 ∷ []) ∷ written (1 ∷ 2 ∷ 1 ∷ 2 ∷ 13 ∷ 1 ∷ 3 ∷ 4 ∷ []) ∷ written (1 ∷ 2 ∷ 0 ∷ 3 ∷ 20 ∷ 0 ∷ []) ∷ []) (0 ∷ 2 ∷ 1 ∷ 0 ∷ []) 0
    ∷ asking 11 5 (none 2 ∷ none 2 ∷ none 2 ∷ written (3 ∷ 2 ∷ 3 ∷ 0 ∷ 10 ∷ 1 ∷ 1 ∷ 12 ∷ 2 ∷ 2 ∷ 13 ∷ 0 ∷ 1 ∷ 2 ∷ 1 ∷ 2 ∷ 3 ∷ 4 ∷ []) ∷ []) (1 ∷ 3 ∷ 4 ∷ 0 ∷ []) 1
    ∷ asking 12 5 (none 2 ∷ none 2 ∷ none 2 ∷ written (3 ∷ 2 ∷ 3 ∷ 0 ∷ 10 ∷ 1 ∷ 1 ∷ 12 ∷ 2 ∷ 2 ∷ 13 ∷ 0 ∷ 3 ∷ 4 ∷ 1 ∷ 2 ∷ 3 ∷ 4 ∷ []) ∷ []) (1 ∷ 3 ∷ 4 ∷ 0 ∷ []) 1
    ∷ record {
      rule = sizes 2 1 3 ++ atoms ++ head 3 0 1 ++ body 0 1 ++ body 0 0 ++ body 0 0;
      fed = events (event 3 ((0 ∷ 1 ∷ 2 ∷ []) ∷ (0 ∷ 3 ∷ 4 ∷ []) ∷ (1 ∷ 1 ∷ []) ∷ []) ∷ []);
      checked = reaching 0 3;
      givens = written (1 ∷ 2 ∷ 1 ∷ 0 ∷ 3 ∷ 1 ∷ 3 ∷ 4 ∷ []) ∷ [];
      kepts = 0 ∷ [];
      left = 0;
    }
    -- "A term is a constant if its mask bit is set": an atom of variable 0, the constant 67,305,985 (bytes 1, 2, 3, 4), variable 2 and the constant 6; kept where variable 2 is less than 7
    ∷ record {
      rule = sizes 4 0 2 ++ (1 ∷ 0 ∷ 0 ∷ 10 ∷ 4 ∷ 0 ∷ 2 ∷ 2 ∷ []) ++ word 0 ++ (1 ∷ 2 ∷ 3 ∷ 4 ∷ []) ++ word 2 ++ word 6 ++ body 2 7;
      fed = events (event 3 ((0 ∷ 9 ∷ 67305985 ∷ 5 ∷ 6 ∷ []) ∷ (0 ∷ 8 ∷ 67305985 ∷ 7 ∷ 6 ∷ []) ∷ (0 ∷ 9 ∷ 1 ∷ 4 ∷ 6 ∷ []) ∷ (0 ∷ 9 ∷ 67305985 ∷ 4 ∷ 5 ∷ []) ∷ []) ∷ []);
      checked = reaching 0 5;
      givens = written (1 ∷ 2 ∷ 1 ∷ 0 ∷ 3 ∷ 1 ∷ 9 ∷ 5 ∷ []) ∷ [];
      kepts = 0 ∷ [];
      left = 0;
    }
    ∷ rules

-- every case of the table
pub starred : map run cases ≡ cases
unfolding size time rows_at latest log_of word_at sizes_fit head_at body_at node_of node_at formula_at shape_fits range_fits times_child weigh_node checking last_pairs consulted parent_of point_entries age_entries entries_of entries kept open_points is_event row_fits point_of report_words newly_settled reported report admitted weighed crowded_at answer_on step answered
starred = refl

-- of these rules, those without "next" are the ones that have no head of kind 8
pub nextless : map (λ c. without_next (pattern c.rule)) cases ≡ map (λ c. not (any (λ x. eqb (get_or c.rule (12 + 4 * x) 0) 8) (range 0 (node_count c.rule)))) cases
unfolding word_at head_at body_at node_of node_at formula_at
nextless = refl
