-- Pins, lines after events, and names, computed: each check of a pin in its place, a transfer answered and released, and
-- which part is the name.
use Rattle.std.specs.Prelude.{ℕ, ◌≡◌, true, false, pos, List, [], ◌∷◌, ◌++◌, replicate, None, Some}
use Rattle.board.specs.declared.Board.{Board}
use Rattle.board.specs.declared.Row.{Row}
use Rattle.board.specs.declared.Standing.{Standing}
use Rattle.board.specs.declared.Standing.TheVariants as state
use Rattle.board.specs.Making.{empty_row, options}
use Rattle.rules.specs.Step.{step}
use Rattle.attendant_console.specs.declared.ShownAs.{ShownAs}
use Rattle.attendant_console.specs.declared.ShownAs.TheVariants.{WithUser, Joined, JoinedAlerting}
use Rattle.attendant_console.specs.Screen.{Line, Pinned, pin, lines_after}
use Rattle.attendant_console.specs.Name.{name}

abbrev pub row : ℕ → Standing → Row
row n s = record { leg = n; number = empty_row.number; standing = s }

-- leg 1 is joined with leg 2, which alerts
abbrev pub transferred : Board
transferred = record {
  rows = row 1 (state.Joined 2 false) ∷ row 2 (state.Joined 1 true) ∷ replicate 62 empty_row;
  options = options 2 1;
  candidate = record { 0 = pos 0 };
}

-- the same rows with an option that no sound board has
abbrev pub unsound : Board
unsound = record { rows = transferred.rows; options = options 0 4; candidate = transferred.candidate }

abbrev pub line : ℕ → ShownAs → Line
line n s = Some (record { leg = n; shown_as = s })

abbrev pub empty : ℕ → List Line
empty n = replicate n None

abbrev pub pinned : ℕ → List Line → Pinned
pinned n ls = record { returned = n; lines = ls }

-- the leg 9, which is not on the board, and both of the pair
abbrev pub lent_lines : List Line
lent_lines = line 9 WithUser ∷ None ∷ line 1 Joined ∷ line 2 JoinedAlerting ∷ empty 12

-- the lines after an event on that board
abbrev pub after : List ℕ → List Line → List Line
after event ls = lines_after (step transferred event 128) ls

abbrev pub answer_2 : List ℕ
answer_2 = 6 ∷ 0 ∷ 0 ∷ 0 ∷ 2 ∷ []

abbrev pub release_1 : List ℕ
release_1 = 4 ∷ 0 ∷ 0 ∷ 0 ∷ 1 ∷ []

pub record ScreenExamples : Type 0 where
  pub alerting : pin (empty 16) transferred 2 ≡ pinned 0 (line 2 JoinedAlerting ∷ empty 15)
  -- the lowest empty line
  pub lowest :
      pin (line 2 JoinedAlerting ∷ None ∷ line 9 WithUser ∷ empty 13) transferred 1
      ≡ pinned 0 (line 2 JoinedAlerting ∷ line 1 Joined ∷ line 9 WithUser ∷ empty 13)
  -- 2 before 16, 16 before 17, 17 before 18
  pub not_sound : pin lent_lines unsound 9 ≡ pinned 2 lent_lines
  pub not_on_board : pin lent_lines transferred 9 ≡ pinned 16 lent_lines
  pub already_pinned : pin (replicate 16 (line 1 Joined)) transferred 1 ≡ pinned 17 (replicate 16 (line 1 Joined))
  pub all_used : pin (replicate 16 (line 1 Joined)) transferred 2 ≡ pinned 18 (replicate 16 (line 1 Joined))
  -- after the answer nobody alerts, and the leg that is not on the board has no line
  pub answered : after answer_2 lent_lines ≡ None ∷ None ∷ line 1 Joined ∷ line 2 Joined ∷ empty 12
  -- a leg on two lines is drawn on both
  pub twice : after answer_2 (line 2 WithUser ∷ line 2 JoinedAlerting ∷ empty 14) ≡ line 2 Joined ∷ line 2 Joined ∷ empty 14
  -- with a party its partner goes
  pub released : after release_1 lent_lines ≡ empty 16
  -- a refused event, here of no octets, leaves the lines
  pub refused : after [] lent_lines ≡ lent_lines

-- ---- names

-- "Ward 4", ", Wing B", the digits 21
abbrev pub ward_4 : List ℕ
ward_4 = 0x57 ∷ 0x61 ∷ 0x72 ∷ 0x64 ∷ 0x20 ∷ 0x34 ∷ []

abbrev pub wing_b : List ℕ
wing_b = 0x2c ∷ 0x20 ∷ 0x57 ∷ 0x69 ∷ 0x6e ∷ 0x67 ∷ 0x20 ∷ 0x42 ∷ []

abbrev pub digits_21 : List ℕ
digits_21 = 0x32 ∷ 0x31 ∷ []

pub record NameExamples : Type 0 where
  pub before_comma : name (ward_4 ++ wing_b) digits_21 ≡ ward_4
  pub first_comma : name (ward_4 ++ wing_b ++ wing_b) digits_21 ≡ ward_4
  pub no_comma : name ward_4 digits_21 ≡ ward_4
  pub empty_part : name wing_b digits_21 ≡ digits_21
  pub empty_line : name [] digits_21 ≡ digits_21
  -- nothing is trimmed
  pub blank : name (0x20 ∷ wing_b) digits_21 ≡ 0x20 ∷ []
  -- empty digits give an empty part
  pub nothing : name wing_b [] ≡ []
