-- Each turn leaves the unread bytes within their buffer and room for the largest answer.
use Rattle.std.proofs.Common.{◌≡◌, ◌+◌, ◌≤◌, length}
use Rattle.listing.proofs.take_all.Given as goal

abbrev pub invariant-loop : goal.invariant-loop
invariant-loop g l =
    (length l.report ≡ 4326) × (l.from ≤ l.to) × (l.to ≤ 65536) × (l.at + 53504 ≤ 65536)
