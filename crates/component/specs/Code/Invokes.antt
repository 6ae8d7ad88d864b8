-- The reading that what an invoke's readers return stands for.
use Rattle.std.specs.Prelude.{Result, Ok, Err}
use Rattle.octets.specs.declared.IntegerOctets.{IntegerOctets}
use Rattle.component.specs.declared.Operation.{Operation}
use Rattle.component.specs.declared.Reject.{Reject}
use Rattle.component.specs.declared.Reading.{Reading}
use Rattle.component.specs.declared.Reading.TheVariants.{Rejected, Invoked}

-- of an operation, where the identifier is read
abbrev pub operation_read : IntegerOctets → Result Operation Reject → Reading
operation_read i (Ok o) = Invoked i o
operation_read i (Err r) = Rejected r

-- of both
abbrev pub invoke_read : Result (IntegerOctets × Operation) Reject → Reading
invoke_read (Ok o) = Invoked o.0 o.1
invoke_read (Err r) = Rejected r
