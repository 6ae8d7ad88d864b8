-- Worked examples, computed: the octets of invokes, with the identifiers at which the number of octets changes. Assumes nothing.
use mathlib.Core.Path.{◌≡◌, refl}
use mathlib.Core.List.{[], ◌∷◌}
use lib.IntN.{pos, negsuc}
use Rattle.component.specs.declared.Operation.TheVariants.{EctExecute, ExplicitEctExecute, EctLinkIdRequest}
use Rattle.invokes.specs.Invokes.{invoke_octets}

execute_minus_129 : invoke_octets EctExecute (record { 0 = negsuc 128 }) ≡ 0xA1 ∷ 0x07 ∷ 0x02 ∷ 0x02 ∷ 0xFF ∷ 0x7F ∷ 0x02 ∷ 0x01 ∷ 0x06 ∷ []
unfolding invoke_octets
execute_minus_129 = refl

execute_minus_128 : invoke_octets EctExecute (record { 0 = negsuc 127 }) ≡ 0xA1 ∷ 0x06 ∷ 0x02 ∷ 0x01 ∷ 0x80 ∷ 0x02 ∷ 0x01 ∷ 0x06 ∷ []
unfolding invoke_octets
execute_minus_128 = refl

execute_minus_1 : invoke_octets EctExecute (record { 0 = negsuc 0 }) ≡ 0xA1 ∷ 0x06 ∷ 0x02 ∷ 0x01 ∷ 0xFF ∷ 0x02 ∷ 0x01 ∷ 0x06 ∷ []
unfolding invoke_octets
execute_minus_1 = refl

execute_0 : invoke_octets EctExecute (record { 0 = pos 0 }) ≡ 0xA1 ∷ 0x06 ∷ 0x02 ∷ 0x01 ∷ 0x00 ∷ 0x02 ∷ 0x01 ∷ 0x06 ∷ []
unfolding invoke_octets
execute_0 = refl

execute_127 : invoke_octets EctExecute (record { 0 = pos 127 }) ≡ 0xA1 ∷ 0x06 ∷ 0x02 ∷ 0x01 ∷ 0x7F ∷ 0x02 ∷ 0x01 ∷ 0x06 ∷ []
unfolding invoke_octets
execute_127 = refl

execute_128 : invoke_octets EctExecute (record { 0 = pos 128 }) ≡ 0xA1 ∷ 0x07 ∷ 0x02 ∷ 0x02 ∷ 0x00 ∷ 0x80 ∷ 0x02 ∷ 0x01 ∷ 0x06 ∷ []
unfolding invoke_octets
execute_128 = refl

-- the LinkId -128, by the identifier 5
explicit : invoke_octets (ExplicitEctExecute (record { 0 = negsuc 127 })) (record { 0 = pos 5 })
    ≡ 0xA1 ∷ 0x0E ∷ 0x02 ∷ 0x01 ∷ 0x05 ∷ 0x06 ∷ 0x06 ∷ 0x04 ∷ 0x00 ∷ 0x82 ∷ 0x71 ∷ 0x01 ∷ 0x01 ∷ 0x02 ∷ 0x01 ∷ 0x80 ∷ []
unfolding invoke_octets
explicit = refl

request : invoke_octets EctLinkIdRequest (record { 0 = pos 5 }) ≡ 0xA1 ∷ 0x0B ∷ 0x02 ∷ 0x01 ∷ 0x05 ∷ 0x06 ∷ 0x06 ∷ 0x04 ∷ 0x00 ∷ 0x82 ∷ 0x71 ∷ 0x01 ∷ 0x04 ∷ []
unfolding invoke_octets
request = refl
