-- "The whole list": the keeper, which is fed the rule and each taking's event words or notice's time and its buffer, and holds only a log.
use Rattle.std.specs.Prelude.{ℕ, Bool, not, cond, ◌&&◌, List, [], ◌∷◌, ◌++◌, map, length, get_or, drop, ltb, leb}
use Rattle.meaning.specs.Lists.{any, range, select, gather}
use Rattle.meaning.specs.Outcome.{Outcome, refused, given, when, not_an_event, row_out, time_falls, log_full, crowded, backlog, kept_over, buffer_short, most_rows, most_open, most_kept, most_points}
use Rattle.meaning.specs.Log.{Log, Taken, added, noted, stamp, size, time, latest, points_of, log_of}
use Rattle.meaning.specs.Formula.{Formula, free, variables}
use Rattle.meaning.specs.Evaluator.{vals}
use Rattle.meaning.specs.Settled.{settled}
use Rattle.meaning.specs.RuleFile.{node_count, formula_at, pattern}
use Rattle.meaning.specs.Kept.{kept, open_points}
use Rattle.meaning.specs.Event.{row_count, is_event, row_fits, point_of}
use Rattle.meaning.specs.Report.{Reported, report_words}
use Rattle.meaning.specs.declared.Point.{Point}
use Rattle.meaning.specs.declared.Stamp.{Stamp}

-- what a taking is fed: an event's words, or a clock notice's time
pub data Fed : Type 0 where
  event : List ℕ → Fed
  notice : ℕ → Fed

-- "Each taking has event words and a report buffer of its own, of any length and content"; "the list then holds takings of either kind"
pub record Taking : Type 0 where
  pub fed : Fed
  pub buffer : List ℕ

-- what a taking gives back: the answer, the words written or a refusal, and every word of the buffer
pub record Given : Type 0 where
  pub answer : Outcome ℕ
  pub buffer : List ℕ

-- the points settled for a node in the second log and not in the first
unfoldable pub newly_settled : Log → Log → Formula → List Point
newly_settled l l' φ = select (λ i. settled l' φ i && not (settled l φ i)) (points_of l')

-- a report's row: the values of the free variables, lowest number first
abbrev pub report_row : (ℕ → Bool) → List ℕ → List ℕ
report_row f u = gather (λ x. cond (f x) (get_or u x 0 ∷ []) []) variables

-- "each point settled for the last node now and not before, in point order, with its time and its valuations by Definition 2 on the log now, in the report's order"
unfoldable pub reported : Log → Log → Formula → List Reported
reported l l' φ = map (λ i. record { at = i; time = time l' i; rows = map (report_row (free φ)) (vals l' φ i) }) (newly_settled l l' φ)

unfoldable pub report : List ℕ → Log → Log → List ℕ
report b l l' = report_words (length (select (free (pattern b)) variables)) (reported l l' (pattern b))

-- 10: "place is the first such row"
abbrev pub weigh_rows : List ℕ → List ℕ → List ℕ → Outcome ℕ → Outcome ℕ
weigh_rows b w [] rest = rest
weigh_rows b w (k ∷ ks) rest = when (not (row_fits b w k)) row_out k (weigh_rows b w ks rest)

-- 13: "place the lowest such node"
abbrev pub weigh_crowds : (ℕ → Bool) → List ℕ → Outcome ℕ → Outcome ℕ
weigh_crowds crowds [] rest = rest
weigh_crowds crowds (x ∷ xs) rest = when (crowds x) crowded x (weigh_crowds crowds xs rest)

-- 9 to 12, by the latest time and the number of points, and then what follows
unfoldable pub admitted : List ℕ → List ℕ → Stamp → ℕ → Outcome ℕ → Outcome ℕ
admitted b w last points rest =
    when (not (is_event w)) not_an_event 0
    (weigh_rows b w (range 0 (row_count w))
    (when (ltb (get_or w 0 0) last.0) time_falls 0
    (when (leb most_points points) log_full 0
    rest)))

-- what comes first: 9 to 12 of an event; "A notice is refused by .. 11 if it is below the latest known time"
abbrev pub admits : List ℕ → Fed → Stamp → ℕ → Outcome ℕ → Outcome ℕ
admits b (event w) last points rest = admitted b w last points rest
admits b (notice t) last points rest = when (ltb t last.0) time_falls 0 rest

-- "Then, reckoned as if the event were taken", 13 to 16, by the nodes that are crowded, the points left unsettled, the entries kept, the report's words and the buffer's; "Otherwise .. the words written"
unfoldable pub weighed : (ℕ → Bool) → ℕ → ℕ → ℕ → ℕ → ℕ → Outcome ℕ
weighed crowds nodes unsettled entries words room =
    weigh_crowds crowds (range 0 nodes)
    (when (ltb most_open unsettled) backlog 0
    (when (ltb most_kept entries) kept_over 0
    (when (ltb room words) buffer_short words
    (given words))))

-- the unsettled points that 14 looks at: it isn't tested on a notice, "then 13, 15 and 16"
abbrev pub backlog_of : Fed → ℕ → ℕ
backlog_of (event w) unsettled = unsettled
backlog_of (notice t) unsettled = 0

-- 13: "some node has over 32 valuations at a point newly settled for it"
unfoldable pub crowded_at : List ℕ → Log → Log → ℕ → Bool
crowded_at b l l' x = any (λ i. ltb most_rows (length (vals l' (formula_at b x) i))) (newly_settled l l' (formula_at b x))

-- what is put at the log's end: the event's point, or the notice
abbrev pub taken_of : List ℕ → Fed → Taken
taken_of b (event w) = added (point_of b w)
taken_of b (notice t) = noted (stamp t)

abbrev pub grown : List ℕ → List Taken → Fed → List Taken
grown b es f = es ++ taken_of b f ∷ []

-- "If any of 9 to 16 applies to that log, the event and the buffer, it answers the first with its place"; what is fed is reckoned from the log before it and the log with it
unfoldable pub answer_on : List ℕ → Log → Log → Taking → Outcome ℕ
answer_on b l l' t =
    admits b t.fed (latest l) (size l)
    (weighed (crowded_at b l l') (node_count b) (backlog_of t.fed (open_points b l')) (kept b l') (length (report b l l')) (length t.buffer))

abbrev pub answer : List ℕ → List Taken → Taking → Outcome ℕ
answer b es t = answer_on b (log_of es) (log_of (grown b es t.fed)) t

-- "log and buffer stay. Otherwise the point joins the log", or the notice is put "in its place in the log", "and the report goes to the buffer's front .. Words past it stay"
abbrev pub log_after : Outcome ℕ → List Taken → List Taken → List Taken
log_after (refused number place) es es' = es
log_after (given words) es es' = es'

abbrev pub buffer_after : Outcome ℕ → List ℕ → List ℕ → List ℕ
buffer_after (refused number place) words buffer = buffer
buffer_after (given n) words buffer = words ++ drop (length words) buffer

unfoldable pub step : List ℕ → List Taken → Taking → List Taken
step b es t = log_after (answer b es t) es (grown b es t.fed)

unfoldable pub answered : List ℕ → List Taken → Taking → Given
answered b es t = record { answer = answer b es t; buffer = buffer_after (answer b es t) (report b (log_of es) (log_of (grown b es t.fed))) t.buffer }

-- over a list of takings: the keeper's log after it, and what each taking is given back
abbrev pub keeper_log : List ℕ → List Taken → List Taking → List Taken
keeper_log b es [] = es
keeper_log b es (t ∷ ts) = keeper_log b (step b es t) ts

abbrev pub keeper : List ℕ → List Taken → List Taking → List Given
keeper b es [] = []
keeper b es (t ∷ ts) = answered b es t ∷ keeper b (step b es t) ts
