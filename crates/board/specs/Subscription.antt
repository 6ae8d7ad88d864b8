-- What the first option of a board says (document 01, "Serving it"; document 02, slip 9).
use Rattle.std.specs.Prelude.{Bool, ◌||◌, eqb}
use Rattle.board.specs.declared.Options.{Options}

-- "two options (subscribed; alerting transfer allowed)", 1 where it is subscribed; "2: subscribed, explicit only" (slip 9)
abbrev pub is_subscribed : Options → Bool
is_subscribed o = eqb o.subscribed 1 || eqb o.subscribed 2

-- "The first option octet may be 2: subscribed, explicit only", so that no transfer names one call
abbrev pub is_explicit_only : Options → Bool
is_explicit_only o = eqb o.subscribed 2
