-- `find` hands on one event less, and `find_beginning` as many as it has.
use Rattle.std.proofs.Common.{◌≡◌, ◌+◌, ◌-◌, ◌*◌}
use Rattle.short_histories.specs.Code.Finding.{found_in}
use Rattle.short_histories.specs.Code.Walking.{long, begun_from}
use Rattle.short_histories.proofs.+find_and_find_beginning.Given as goal

abbrev pub decreases-find : goal.decreases-find
decreases-find l = 2 * l.length

abbrev pub decreases-find_beginning : goal.decreases-find_beginning
decreases-find_beginning l = 2 * l.length + 1

-- the place left among those that this event or a later one begins is the place in the list of all
abbrev pub invariant-find-loop-number : goal.invariant-find-loop-number
invariant-find-loop-number l = found_in l.left (begun_from (l.length - 1) l.board l.number) ≡ found_in l.fn.place (long l.length l.board)
