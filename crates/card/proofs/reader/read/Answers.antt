-- `card::reader::read` meets its contract. Assumes nothing.
use Rattle.std.proofs.Common.{sym, ◌∙◌, arith}
use Rattle.card.specs.Image.{read_of}
use Rattle.card.proofs.Header.{headed, long, sized}
use Rattle.card.proofs.Refused.{handed_on}
use Rattle.card.proofs.reader.read.Goals as goal

pub returns-in_err-refuse_if : goal.returns-in_err-refuse_if
unfolding read_of
returns-in_err-refuse_if c =
    let wrong = c.in_err-refuse_if.ensures in
    handed_on _ _ _ c.from_residual.ensures.1 ∙ rw (wrong.1, ← c.wrong_length.ensures, wrong.0)

pub returns-in_err-refuse_if-2 : goal.returns-in_err-refuse_if-2
unfolding read_of
returns-in_err-refuse_if-2 c =
    let wrong = c.in_err-refuse_if-2.ensures in
    handed_on _ _ _ c.from_residual-in_err-refuse_if-2.ensures.1
    ∙ rw (wrong.1, ← c.wrong_length.ensures, c.in_ok-refuse_if.ensures, wrong.0)

pub returns-in_err-refuse_if-3 : goal.returns-in_err-refuse_if-3
unfolding read_of
returns-in_err-refuse_if-3 c =
    let wrong = c.in_err-refuse_if-3.ensures in
    let version = c.in_ok-refuse_if-2.ensures in
    handed_on _ _ _ c.from_residual-in_err-refuse_if-3.ensures.1
    ∙ rw (wrong.1, ← c.wrong_length.ensures, c.in_ok-refuse_if.ensures, version, ← c.wrong_sizes.ensures, wrong.0)

pub bounds-image-4 : goal.bounds-image-4
bounds-image-4 c =
    let l = long c.args.image.now (sym c.wrong_length.ensures ∙ c.in_ok-refuse_if.ensures) in
    omega (arith, l.follows, l.least)

pub wrong_sizes-requires : goal.wrong_sizes-requires
wrong_sizes-requires c =
    let l = long c.args.image.now (sym c.wrong_length.ensures ∙ c.in_ok-refuse_if.ensures) in
    omega (arith, l.follows, l.least)

pub read_code-requires : goal.read_code-requires
read_code-requires c =
    headed _ (long _ (sym c.wrong_length.ensures ∙ c.in_ok-refuse_if.ensures))
    (sized _ (sym c.wrong_sizes.ensures ∙ c.in_ok-refuse_if-3.ensures))

pub returns : goal.returns
unfolding read_of
returns c =
    let sizes = c.in_ok-refuse_if-3.ensures in
    rw (← c.wrong_length.ensures, c.in_ok-refuse_if.ensures, c.in_ok-refuse_if-2.ensures, ← c.wrong_sizes.ensures, sizes)
    c.read_code.ensures
