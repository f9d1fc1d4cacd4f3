use Rattle.std.proofs.Common.{◌∙◌, sym, ap, arith, true-eqb, false-eqb}
use Rattle.std.proofs.lemmas.List.{nil_from_length}
use Rattle.texts.specs.Forms.{taken_apart, size_line, free_line, off_line}
use Rattle.texts.proofs.Beginnings.{size_apart, free_apart, off_apart, none_apart}
use Rattle.texts.proofs.forms.read.Goals as goal

pub returns-in-Some : goal.returns-in-Some
returns-in-Some c =
    let found = c.in-Some.ensures.cases in
    (λ i. free_line (c.split.ensures.front i) (c.split.ensures.back i))
    ∙ free_apart c.args.line.now c.in-Some.rest.now found.0 found.1

pub returns-in-Some-strip_prefix : goal.returns-in-Some-strip_prefix
returns-in-Some-strip_prefix c =
    let found = c.in-Some-strip_prefix.ensures.cases in
    (λ i. off_line (c.split-in-Some-strip_prefix.ensures.front i) (c.split-in-Some-strip_prefix.ensures.back i))
    ∙ off_apart c.args.line.now c.in-Some-strip_prefix.rest.now found.0 found.1

pub returns-in-Some-strip_prefix-2 : goal.returns-in-Some-strip_prefix-2
returns-in-Some-strip_prefix-2 c =
    let found = c.in-Some-strip_prefix-2.ensures.cases in
    (λ i. size_line (c.split-in-Some-strip_prefix-2.ensures.front i) (c.split-in-Some-strip_prefix-2.ensures.back i))
    ∙ size_apart c.args.line.now c.in-Some-strip_prefix-2.rest.now found.0 found.1

pub returns-then-is_empty : goal.returns-then-is_empty
unfolding taken_apart
returns-then-is_empty c = ap taken_apart (sym (nil_from_length c.args.line.now (omega (arith, true-eqb _ 0 c.if-is_empty.ensures))))

pub returns-else-is_empty : goal.returns-else-is_empty
returns-else-is_empty c =
    none_apart c.args.line.now (omega (arith, false-eqb _ 0 c.if-is_empty.ensures)) c.in_default-strip_prefix-2.ensures.cases c.in_default.ensures.cases c.in_default-strip_prefix.ensures.cases
