-- "The runner": the line that it prints, byte for byte, and the whole runner from its input to that line.
use Rattle.std.specs.Prelude.{ℕ, Bool, cond, List, [], ◌∷◌, eqb, pos, get_or, replicate, take}
use Rattle.text.specs.Decimal.{decimal, signed}
use Rattle.text.specs.Lines.{line}
use Rattle.machine.specs.Calls.{Box, Called, Report, count_of, refused_state, run_call, set_up, state_of}
use Rattle.machine.specs.Registers.{faulted, halted, running, stuck, zeros}
use Rattle.machine.specs.Size.{store_size, tables_size, values_size}
use Rattle.machine.specs.Tables.{ended, place_of}

-- `halted`
abbrev pub halted_word : List ℕ
halted_word = 104 ∷ 97 ∷ 108 ∷ 116 ∷ 101 ∷ 100 ∷ []

-- `stuck`
abbrev pub stuck_word : List ℕ
stuck_word = 115 ∷ 116 ∷ 117 ∷ 99 ∷ 107 ∷ []

-- `fault`
abbrev pub fault_word : List ℕ
fault_word = 102 ∷ 97 ∷ 117 ∷ 108 ∷ 116 ∷ []

-- `running`
abbrev pub running_word : List ℕ
running_word = 114 ∷ 117 ∷ 110 ∷ 110 ∷ 105 ∷ 110 ∷ 103 ∷ []

-- `refused`
abbrev pub refused_word : List ℕ
refused_word = 114 ∷ 101 ∷ 102 ∷ 117 ∷ 115 ∷ 101 ∷ 100 ∷ []

-- `-`
abbrev pub no_result : List ℕ
no_result = 45 ∷ []

-- "thread 0's result, or `-`": there is one where thread 0 has ended
abbrev pub result_of : ℕ → Box → List ℕ
result_of size box =
    cond (eqb (place_of (state_of size box).tables 0) ended) (signed (get_or box.values 0 (pos 0))) no_result

-- `fault NO THREAD PC STEPS`
abbrev pub fault_line : Report → ℕ → ℕ → List ℕ
fault_line answer thread steps =
    line fault_word (decimal answer.number ∷ decimal thread ∷ decimal answer.place ∷ decimal steps ∷ [])

-- "prints one line: `halted STEPS RESULT` .., `stuck STEPS`, `fault NO THREAD PC STEPS`, `running STEPS`, or `refused
-- NO PLACE`"
abbrev pub answer_line : ℕ → Report → ℕ → Box → List ℕ
answer_line size answer steps box =
    cond (eqb answer.state halted) (line halted_word (decimal steps ∷ result_of size box ∷ []))
    (cond (eqb answer.state stuck) (line stuck_word (decimal steps ∷ []))
    (cond (eqb answer.state faulted) (fault_line answer box.regs.thread steps)
    (cond (eqb answer.state running) (line running_word (decimal steps ∷ []))
    (line refused_word (decimal answer.number ∷ decimal answer.place ∷ [])))))

-- the line of a call's result
unfoldable pub line_of : ℕ → Called → List ℕ
line_of size called = answer_line size called.answer (count_of called) called.box

-- "of a longer input only the first 16,394 bytes, judged as they are"
abbrev pub input_limit : ℕ
input_limit = 16394

abbrev pub judged_part : List ℕ → List ℕ
judged_part input = take input_limit input

-- "runs at most 1,000,000 steps"
abbrev pub step_limit : ℕ
step_limit = 1000000

-- the box that the runner lends: every cell and number 0. Any other content of these sizes gives the same line, since
-- setting up writes all of it.
abbrev pub lent : ℕ → Box
lent size =
    record {
      store = replicate (store_size size) (pos 0);
      tables = replicate (tables_size size) 0;
      values = replicate (values_size size) (pos 0);
      regs = zeros;
    }

abbrev pub is_refused : Report → Bool
is_refused answer = eqb answer.state refused_state

-- setting up in a lent box and, where that is not refused, the run
unfoldable pub runner_in : ℕ → List ℕ → Box → Called
runner_in size image box =
    let up = set_up size image box in
    let ran = run_call size image step_limit up.box in
    cond (is_refused up.answer) up ran

abbrev pub runner_call : ℕ → List ℕ → Called
runner_call size image = runner_in size image (lent size)

-- the whole runner, from what stands on its input to the line that it prints
unfoldable pub runner_line : ℕ → List ℕ → List ℕ
runner_line size input = line_of size (runner_call size (judged_part input))
