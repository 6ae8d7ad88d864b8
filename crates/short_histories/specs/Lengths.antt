-- How many short histories there are, computed.
use Rattle.std.specs.Prelude.{◌≡◌, length}
use Rattle.short_histories.specs.Sequences.{event_numbers, of_length}
use Rattle.short_histories.specs.Histories.{six_records, accepts_number, after_number, first_board, histories}

-- so many of each length, and in all; a record for each number
pub record Lengths : Type 0 where
  pub records : length six_records ≡ length event_numbers
  pub empty : length (of_length accepts_number after_number 0 first_board) ≡ 1
  pub of_1 : length (of_length accepts_number after_number 1 first_board) ≡ 2
  pub of_2 : length (of_length accepts_number after_number 2 first_board) ≡ 6
  pub of_3 : length (of_length accepts_number after_number 3 first_board) ≡ 16
  pub of_4 : length (of_length accepts_number after_number 4 first_board) ≡ 46
  pub in_all : length histories ≡ 71
