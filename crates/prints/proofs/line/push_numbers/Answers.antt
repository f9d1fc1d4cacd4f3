use Rattle.std.proofs.Common.{◌≡◌, [], ◌∷◌, ◌++◌, length, sym, refl, ap, ◌∙◌, append-nil, arith, length-append}
use Rattle.std.proofs.ByRecursion.{All-weaker}
use Rattle.std.proofs.lemmas.Str.{encode_ascii}
use Rattle.prints.specs.Prints.{numbers, commas, set_text}
use Rattle.prints.proofs.Sets.{comma_after, numbers_lacked, begun_some, begun_none, written_more}
use Rattle.prints.proofs.Lengths.{length_set_text, number_room}
use Rattle.prints.proofs.PrintLaws.{numbers_small}
use Rattle.prints.proofs.line.push_numbers.Goals as goal
use Rattle.prints.proofs.line.push_numbers.Goals.{then-holds, then-len-start, else-len-start, else-holds}

pub loop-i-init : goal.loop-i-init
unfolding numbers commas
loop-i-init c = sym (append-nil c.args.line.now.bytes)

pub push-requires : goal.push-requires
push-requires c =
    let base = c.args.line.now.bytes in
    let ns = numbers c.args.word c.loop-i.i in
    let begun = begun_some base ns c.loop-i.line.bytes (c.loop-i.line.bytes ++ 44 ∷ []) c.loop-i.invariant (omega arith) refl in
    (omega arith, omega (arith, ap length begun, ap length (encode_ascii 44 (omega arith)), length-append c.loop-i.line.bytes (44 ∷ []), length-append (base ++ commas ns) (comma_after ns), length-append base (commas ns), number_room c.args.word c.loop-i.i (omega arith) (sym c.if-holds.ensures)))

pub push_str-requires : goal.push_str-requires
push_str-requires c =
    let base = c.args.line.now.bytes in
    let ns = numbers c.args.word c.loop-i.i in
    let begun : c.if-len-start.line.bytes ≡ (base ++ commas ns) ++ comma_after ns =
    elim c.if-len-start.branch [
      | then-len-start w ↦
          begun_some base ns c.loop-i.line.bytes c.if-len-start.line.bytes c.loop-i.invariant (omega arith) (ap (λ t. t.bytes) w.line-is ∙ w.push.ensures.ascii (omega arith))
      | else-len-start w ↦
          begun_none base ns c.loop-i.line.bytes c.if-len-start.line.bytes (All-weaker _ _ (λ n h. omega arith) ns (numbers_small c.args.word c.loop-i.i)) c.loop-i.invariant (omega arith) (ap (λ t. t.bytes) w.line-is)
    ] in
    (omega arith, omega (arith, ap length begun, ap length c.format.ensures.text, length-append (base ++ commas ns) (comma_after ns), length-append base (commas ns), number_room c.args.word c.loop-i.i (omega arith) (sym c.if-holds.ensures)))

pub loop-i-preserved : goal.loop-i-preserved
loop-i-preserved c =
    let base = c.args.line.now.bytes in
    let ns = numbers c.args.word c.loop-i.i in
    elim c.if-holds.branch [
      | then-holds v ↦
          let begun : v.if-len-start.line.bytes ≡ (base ++ commas ns) ++ comma_after ns =
          elim v.if-len-start.branch [
            | then-len-start w ↦
                begun_some base ns c.loop-i.line.bytes v.if-len-start.line.bytes c.loop-i.invariant (omega (arith, v.len.ensures.value, w.if-len-start.true)) (ap (λ t. t.bytes) w.line-is ∙ w.push.ensures.ascii (omega arith))
            | else-len-start w ↦
                begun_none base ns c.loop-i.line.bytes v.if-len-start.line.bytes (All-weaker _ _ (λ n h. omega arith) ns (numbers_small c.args.word c.loop-i.i)) c.loop-i.invariant (omega (arith, v.len.ensures.value, w.if-len-start.false)) (ap (λ t. t.bytes) w.line-is)
          ] in
          ap (λ t. t.bytes) v.line-is ∙ v.push_str.ensures.bytes ∙ (λ i. begun i ++ v.format.ensures.text i) ∙ written_more base c.args.word c.loop-i.i (sym v.if-holds.ensures)
      | else-holds v ↦ ap (λ t. t.bytes) v.line-is ∙ c.loop-i.invariant ∙ ap (λ l. base ++ commas l) (sym (numbers_lacked c.args.word c.loop-i.i (sym v.if-holds.ensures)))
    ]

pub returns-clause-text : goal.returns-clause-text
unfolding set_text
returns-clause-text c =
    let all : c.loop-i.i ≡ 64 = omega arith in
    c.loop-i.invariant ∙ ap (λ n. c.args.line.now.bytes ++ commas (numbers c.args.word n)) all

pub returns-clause-short : goal.returns-clause-short
returns-clause-short c = length_set_text c.args.word
