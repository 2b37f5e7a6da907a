-- The text has room.
use Rattle.std.proofs.Common.{arith, ◌≡◌, length, ap, ◌∙◌}
use Rattle.algebra.specs.Slice.{written}
use Rattle.output.specs.Output.{Output, output, put}
use Rattle.output.proofs.Put.{put_whole}
use Rattle.report.specs.Report.{report_text}
use Rattle.report.proofs.Fits.{text_fits}
use Rattle.report.proofs.report.Goals as goal

whole : (c : goal.After-put_report)
    → output c.put_report.new.out.row.now c.put_report.new.out.at
    ≡ output (written (report_text c.args.sheet.now) c.args.out.now) (length (report_text c.args.sheet.now))
whole c =
    let text = report_text c.args.sheet.now in
    c.put_report.ensures.is_put.is ∙ ap (λ o. put o text) c.new-text.ensures.is ∙ put_whole c.args.out.now text (omega (arith, text_fits c.args.sheet.now))

pub returns-clause-count : goal.returns-clause-count
returns-clause-count c = ap (λ (o : Output). o.place) (whole c)

pub returns-clause-bytes : goal.returns-clause-bytes
returns-clause-bytes c = ap (λ (o : Output). o.row) (whole c)
