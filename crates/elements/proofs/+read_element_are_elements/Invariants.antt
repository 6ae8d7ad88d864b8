-- Each call reads fewer octets, or the same octets as their first element.
use Rattle.std.proofs.Common.{◌+◌, ◌*◌, length}
use Rattle.elements.proofs.+read_element_are_elements.Given as goal

abbrev pub decreases-read_element : goal.decreases-read_element
decreases-read_element l = 2 * length l.s.now

abbrev pub decreases-are_elements : goal.decreases-are_elements
decreases-are_elements l = 2 * length l.s.now + 1
