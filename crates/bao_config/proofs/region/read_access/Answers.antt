use Rattle.bao_config.proofs.Texts.{is_region_access-other, text_refused}
use Rattle.bao_config.specs.Texts.{is_region_access}
use Rattle.bao_config.proofs.region.read_access.Goals as goal

pub returns-in_default : goal.returns-in_default
returns-in_default c =
    let t = c.in_ok-str_at.field-0.now in
    text_refused is_region_access _ _ t c.in_ok-str_at.ensures.ok (is_region_access-other t c.in_default.not-r c.in_default.not-rx c.in_default.not-rw c.in_default.not-rwx)
