use Rattle.std.proofs.Common.{ap, ◌∙◌, slice_get}
use Rattle.phys_bank.specs.Pages.{page_of, is_one_in_use}
use Rattle.phys_bank.proofs.Fresh.{kept-in_use, used-has_page}
use Rattle.phys_bank.proofs.banks.Banks.new.Goals as goal

pub returns-clause-pages : goal.returns-clause-pages
returns-clause-pages c = λ i at.
    (kept-in_use c.args.used.now c.fill.new.directory c.lay_out-places.result.0.items at (λ k place there. c.in_ok-fill.ensures.filled k place (ap (λ ps. slice_get ps k) c.deref.ensures.0 ∙ there))
    ∙ ap (λ banks. is_one_in_use c.args.used.now (page_of banks at)) c.lay_out-places.ensures.ranges) i

pub returns-clause-used : goal.returns-clause-used
returns-clause-used c = λ lie at held. ap (λ kept. kept at) (returns-clause-pages c) ∙ used-has_page c.args.banks.now c.args.used.now at lie held
