-- What `play` makes of a piece of a log: as many records as the piece has whole and the buffer has room for.
use Rattle.std.specs.Prelude.{ℕ, zero, suc, ◌+◌, ◌-◌, ◌≤◌, ◌≡◌, Bool, true, false, cond, Option, None, Some}
use Rattle.std.specs.Prelude.{List, [], ◌∷◌, ◌++◌, eqb, leb, ltb, length, take, drop, get_or}
use Rattle.board.specs.declared.Board.{Board}
use Rattle.events.specs.Records.{record_length}
use Rattle.rules.specs.Step.{Outcome, step_tested}
use Rattle.octets.specs.Buffers.{front_written}
use Rattle.ect.specs.Contract.{answer_number}
use Rattle.log_text.specs.Writing.{Fitted}
use Rattle.playing.specs.declared.PlayedRecord.{PlayedRecord}
use Rattle.playing.specs.declared.Pause.{Pause}
use Rattle.playing.specs.declared.Pause.TheVariants.{MoreInput, FullOutput, End}
use Rattle.playing.specs.declared.Played.{Played}
use Rattle.playing.specs.Log.{outcome_line, judged, stops_reading, largest_number}

-- ---- a piece

-- how much of a piece the record in front of it takes; 0 where the record goes on behind the piece
abbrev pub front_length : Bool → List ℕ → ℕ
front_length last piece =
    cond (leb (record_length (get_or piece 0 0)) (length piece)) (record_length (get_or piece 0 0))
    (cond last (length piece) 0)

-- the same, `None` where the record goes on behind the piece
abbrev pub front : Bool → List ℕ → Option ℕ
front last piece = cond (eqb (front_length last piece) 0) None (Some (front_length last piece))

-- the record in front of a piece, and its line
abbrev pub piece_record : Bool → List ℕ → List ℕ
piece_record last piece = take (front_length last piece) piece

abbrev pub piece_line : Board → ℕ → Bool → List ℕ → List ℕ
piece_line b n last piece = outcome_line (n + 1) (piece_record last piece) (judged b (piece_record last piece))

-- no line of a record is longer
abbrev pub longest_line : ℕ
longest_line = 512

-- behind the last piece nothing is read
abbrev pub pause_at_end : Bool → Pause
pause_at_end true = End
pause_at_end false = MoreInput

-- the board and the number of the last record, how many octets of the piece are read, the text, and why playing pauses
pub record Playing : Type 0 where
  pub board : Board
  pub number : ℕ
  pub read : ℕ
  pub text : List ℕ
  pub pause : Pause

-- playing pauses with nothing more read
abbrev pub pausing : Board → ℕ → Pause → Playing
pausing b n p = record { board = b; number = n; read = 0; text = []; pause = p }

-- with a record of so many octets, and its line, in front
abbrev pub with_record : ℕ → List ℕ → Playing → Playing
with_record n line p = record { board = p.board; number = p.number; read = n + p.read; text = line ++ p.text; pause = p.pause }

-- on the board b, with n records before, into a buffer of `room` octets: at most so many records
unfoldable pub play_from : ℕ → Board → ℕ → List ℕ → Bool → ℕ → Playing
play_from zero b n piece last room = pausing b n (pause_at_end last)
play_from (suc k) b n [] last room = pausing b n (pause_at_end last)
play_from (suc k) b n (o ∷ os) last room =
    cond (ltb room longest_line) (pausing b n FullOutput)
    (cond (eqb (front_length last (o ∷ os)) 0) (pausing b n MoreInput)
    (cond (leb largest_number n) (pausing b n End)
    (with_record (front_length last (o ∷ os)) (piece_line b n last (o ∷ os))
    (cond (stops_reading (judged b (piece_record last (o ∷ os))).returned)
    (pausing (judged b (piece_record last (o ∷ os))).board (n + 1) End)
    (play_from k (judged b (piece_record last (o ∷ os))).board (n + 1)
    (drop (front_length last (o ∷ os)) (o ∷ os)) last (room - length (piece_line b n last (o ∷ os))))))))

-- a piece has no more records than octets
abbrev pub playing : Board → ℕ → List ℕ → Bool → ℕ → Playing
playing b n piece last room = play_from (length piece) b n piece last room

-- ---- what the code returns

abbrev pub paused_at : Board → ℕ → ℕ → ℕ → Pause → Played
paused_at b n r w p = record { board = b; number = n; read = r; written = w; pause = p }

-- all that `play` returns, and the buffer, which "keeps what lies beyond the octets written"
pub record PlaysAs (p : Playing) (before after : List ℕ) (r : Played) : Type 0 where
  pub is : r ≡ paused_at p.board p.number p.read (length p.text) p.pause
  pub buffer : after ≡ front_written p.text before

abbrev pub Plays : Board → ℕ → List ℕ → Bool → List ℕ → List ℕ → Played → Type 0
Plays b n piece last before after r = PlaysAs (playing b n piece last (length before)) before after r

-- the board, the number returned and the line are those of an outcome; the line is short, so that a buffer of 512
-- octets has room for it
pub record PlaysRecordAs (o : Outcome) (number : ℕ) (event before after : List ℕ) (r : PlayedRecord) : Type 0 where
  pub board : r.board ≡ o.board
  pub returned : answer_number r.answer ≡ o.returned
  pub line : Fitted (outcome_line number event o) before after (Some r.written)
  pub short : length (outcome_line number event o) ≤ longest_line

-- the outcome is that of the rules at a buffer of 128 octets
abbrev pub PlaysRecord : Bool → Board → ℕ → List ℕ → List ℕ → List ℕ → PlayedRecord → Type 0
PlaysRecord tested b number event before after r = PlaysRecordAs (step_tested tested b event 128) number event before after r
