-- The functions for C, with lists of numbers in the place of structs and enums. An answer's numbers are those of the
-- promises themselves.
use Rattle.std.specs.Prelude.{ℕ, List, ◌≡◌, ℤ, length}
use Rattle.card.specs.Result.{report_of, value_of}
use Rattle.writer.specs.Writing.{buffer_of, write_of}
use Rattle.importer.specs.Importing.{answer_of, imported, said}
use Rattle.line.specs.Line.{line_answer, line_left}
use Rattle.lister.specs.Listing.{list_of as line_asked, listed}
use Rattle.machine.specs.Calls.{Called, count_of}
use Rattle.lists.specs.Lists.{answer_list, list_of}

-- what a call leaves in everything that it was lent
pub record Reports (called : Called) (store : List ℤ) (tables : List ℕ) (values : List ℤ)
    (registers report : List ℕ) : Type 0 where
  pub in_store : store ≡ called.box.store
  pub in_tables : tables ≡ called.box.tables
  pub in_values : values ≡ called.box.values
  pub in_registers : registers ≡ list_of called.box.regs
  pub reported : report ≡ answer_list called.answer (count_of called)

-- what the writer leaves: its report gives the image's size
pub record WroteList (cells : ℕ) (list before after report : List ℕ) : Type 0 where
  pub reported : report ≡ report_of (write_of cells list (length before))
  pub left : after ≡ buffer_of (write_of cells list (length before)) cells list before

-- what listing a line leaves: its report gives the line's length, 0 past the last line
pub record ListedList (image : List ℕ) (line : ℕ) (before after report : List ℕ) : Type 0 where
  pub reported : report ≡ report_of (line_asked image line (length before))
  pub left : after ≡ listed (line_asked image line (length before)) image line before

-- what importing leaves: its report gives the image's size
pub record ImportedList (text before after report : List ℕ) : Type 0 where
  pub reported : report ≡ report_of (answer_of (said text) (length before))
  pub left : after ≡ imported (answer_of (said text) (length before)) (said text) before

-- what the runner's line leaves: the answer is its length, 0 where there is no room
pub record PrintsLine (input before after : List ℕ) (answer : ℕ) : Type 0 where
  pub answered : answer ≡ value_of (line_answer input (length before))
  pub left : after ≡ line_left (line_answer input (length before)) input before
