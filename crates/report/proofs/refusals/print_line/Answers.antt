-- Each piece of the line was taken, so the text is the line.
use Rattle.std.proofs.Common.{OnOk, ◌++◌, ap, ◌∙◌, subst}
use Rattle.report.proofs.Pieces.{pieces-appended}
use Rattle.std.specs.Io.KnownBytes.{Appends}
use Rattle.report.specs.Lines.{refusal_line}
use Rattle.report.proofs.refusals.print_line.Goals as goal

pub returns-in-Ok : goal.returns-in-Ok
returns-in-Ok g c =
    let held = pieces-appended _ (refusal_line c.args.code) _ c.in-Ok.ensures.writes c.new-text.ensures.intact in
    subst (λ bs. OnOk c.write_all.result (Appends (g.W.Write.contents c.args.to.now) (g.W.Write.contents c.write_all.new.self) bs))
    (c.as_bytes.ensures.value ∙ c.as_str.ensures.value ∙ held.1 ∙ ap (λ bs. bs ++ refusal_line c.args.code) c.new-text.ensures.text)
    c.write_all.ensures.bytes
