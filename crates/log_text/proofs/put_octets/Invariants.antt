use lib.ListN.{take}
use Rattle.log_text.specs.Lines.{hex_octets}
use Rattle.filling.specs.Code.Putting.{HasRoom, Put}
use Rattle.log_text.proofs.put_octets.Given as goal

abbrev pub invariant-loop-octet : goal.invariant-loop-octet
invariant-loop-octet l = HasRoom (hex_octets (take l.octet-index l.octets)) l.initial.line → Put (hex_octets (take l.octet-index l.octets)) l.initial.line l.line
