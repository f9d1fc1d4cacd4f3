use Rattle.std.proofs.Common.{◌≡◌, Ok, Err, Result, refl, ap, ◌∙◌, rules}
use Rattle.std.specs.Result.{result_map_both}
use Rattle.tables.specs.declared.size.Size.{Size}
use Rattle.texts.specs.declared.refusals.Cause.{Cause}
use Rattle.texts.specs.declared.refusals.TextFault.{TextFault}
use Rattle.texts.specs.Cards.{size_told, fault_at, told}
use Rattle.texts.specs.Forms.{form}
use Rattle.texts.proofs.Cards.{first_told}
use Rattle.texts.proofs.FormLaws.{form_laws}
use Rattle.texts.proofs.LineLaws.{line_laws}
use Rattle.texts.proofs.card.head.Goals as goal

abbrev at_head : Cause → TextFault
at_head e = record { line = 1; byte = 0; cause = e }

told_at : (r : Result Size Cause) → told (result_map_both (λ s. s) at_head r) ≡ fault_at 1 0 (told r)
told_at (Ok s) = refl
told_at (Err e) = refl

pub returns : goal.returns
returns c =
    record {
      answer =
          (let is : c.map_err.result ≡ result_map_both (λ s. s) at_head c.read_size.result = search rules in
          ap told is ∙ told_at c.read_size.result ∙ ap (fault_at 1 0) (c.read_size.ensures ∙ ap (λ l. size_told (form l)) c.split.ensures.front ∙ first_told c.args.text.now));
      lines_are_the_text = line_laws;
      forms_are_these = form_laws;
    }
