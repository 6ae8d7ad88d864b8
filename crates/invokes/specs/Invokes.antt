-- The octets of the three invokes (document 02, slip 1; document 01, "Reading a component").
use Rattle.std.specs.Prelude.{ℕ, List, ◌++◌, pos}
use Rattle.octets.specs.declared.InvokeIdentifier.{InvokeIdentifier}
use Rattle.octets.specs.Numbers.{fewest}
use Rattle.component.specs.declared.Operation.{Operation}
use Rattle.component.specs.declared.Operation.TheVariants.{EctExecute, ExplicitEctExecute, EctLinkIdRequest}
use Rattle.component.specs.Answers.{element, integer}
use Rattle.component.specs.Reading.{ect_object}

-- "Operation: local 6 EctExecute; object identifier 04 00 82 71 01 then 01 ExplicitEctExecute or 04 EctLinkIdRequest."
-- "ExplicitEctExecute: third element .. the LinkId"; "integers in fewest octets"
abbrev pub operation_octets : Operation → List ℕ
operation_octets EctExecute = integer (fewest (pos 6))
operation_octets (ExplicitEctExecute l) = element 0x06 (ect_object 0x01) ++ integer (fewest l.0)
operation_octets EctLinkIdRequest = element 0x06 (ect_object 0x04)

-- "operation, invoke identifier and, for the explicit one, LinkId go in; the component octets go into a lent buffer,
-- integers in fewest octets"
unfoldable pub invoke_octets : Operation → InvokeIdentifier → List ℕ
invoke_octets op i = element 0xA1 (integer (fewest i.0) ++ operation_octets op)
