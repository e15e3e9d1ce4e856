-- What the functions on the tables ask, and what they leave.
use Rattle.std.specs.Prelude.{ℕ, ◌*◌, ◌<◌, ◌≤◌, List, ◌++◌, ◌≡◌, length, take, drop, Option, Some, None}
use Rattle.machine.specs.Plain.{Line}
use Rattle.machine.specs.Lists.{to_end}
use Rattle.machine.specs.Tables.{Tables, active, first, sent, tables_of}
use Rattle.machine.specs.declared.numbers.Thread.{Thread}

-- a slice of tables in order: its size, and a line that holds each thread once
pub record Good (size : ℕ) (slice : List ℕ) : Type 0 where
  pub small : size ≤ 32
  pub long : length slice ≡ 7 * size
  pub line : Line size (tables_of size slice).line

-- the tables in a slice afterwards, still in order
pub record Left (size : ℕ) (slice : List ℕ) (tables : Tables) : Type 0 where
  pub is : tables_of size slice ≡ tables
  pub good : Good size slice

-- a queue's first thread, if there is one, is taken out of it: its place is then that of the running thread, which no
-- queue has
abbrev pub taken : Option Thread → Tables → Tables
taken (Some t) tables = sent tables t.0 active
taken None tables = tables

-- a slice whose first t from a place on is moved to the end
abbrev pub end_moved : List ℕ → ℕ → ℕ → List ℕ
end_moved slice from t = take from slice ++ to_end t (drop from slice)

-- what taking the first of a queue answers, and leaves
pub record Dequeued (size : ℕ) (before : List ℕ) (from : ℕ) (answer : Option Thread) (after : List ℕ) : Type 0 where
  pub found : answer ≡ first (tables_of size before) from
  pub left : Left size after (taken answer (tables_of size before))
  pub real : (t : Thread) → answer ≡ Some t → t.0 < size
