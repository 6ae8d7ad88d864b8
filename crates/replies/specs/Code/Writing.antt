-- The replies of an event as a value, and the numbers of what a far party is told.
use Rattle.std.specs.Prelude.{ℕ, ◌-◌, Bool, true, false, List, ◌∷◌, ◌++◌, length, take, replicate}
use Rattle.octets.specs.declared.CallReference.{CallReference}
use Rattle.octets.specs.declared.IntegerOctets.{IntegerOctets}
use Rattle.component.specs.declared.Answer.TheVariants as answer
use Rattle.board.specs.declared.RuleSet.{RuleSet}
use Rattle.replies.specs.declared.Out.{Out}
use Rattle.replies.specs.declared.FarParty.{FarParty}
use Rattle.replies.specs.declared.Message.{Message}
use Rattle.replies.specs.declared.Message.TheVariants.{Facility, Notify}
use Rattle.replies.specs.declared.Description.{Description}
use Rattle.replies.specs.declared.Description.TheVariants.{TransferredAlerting, TransferredActive}
use Rattle.rules.specs.Replies.{ReplyRecord, Reply, octets, drops, told, facility, notify, transferred_alerting}
use Rattle.rules.specs.Replies.{transferred_active}

-- octets as a value, with zeros behind them
abbrev pub out_of : List ℕ → Out
out_of os = record { octets = os ++ replicate (128 - length os) 0; len = length os }

-- the octets of the records, in their order, and zeros behind them
unfoldable pub rendered : List ReplyRecord → Out
rendered rs = out_of (octets rs)

-- the octets written
abbrev pub written : Out → List ℕ
written o = take o.len o.octets

abbrev pub message_number : Message → ℕ
message_number Facility = facility
message_number Notify = notify

abbrev pub description_number : Description → ℕ
description_number TransferredAlerting = transferred_alerting
description_number TransferredActive = transferred_active

-- 1 asks for a subaddress
abbrev pub request_number : Bool → ℕ
request_number false = 0
request_number true = 1

-- each is told of the other, the named one first
abbrev pub transfer_tells : RuleSet → FarParty → FarParty → List ReplyRecord
transfer_tells r named other =
    told r named.leg named.alerts other.alerts other.number
    ++ told r other.leg other.alerts named.alerts named.number

-- the records of a transfer, the Reply on the reference r, the named one's Drop first
abbrev pub transfer_records : RuleSet → CallReference → IntegerOctets → FarParty → FarParty → List ReplyRecord
transfer_records rules r i named other =
    Reply r.0 (answer.Result i) ∷ (drops named.reference.0 other.reference.0 ++ transfer_tells rules named other)
