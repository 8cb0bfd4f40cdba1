-- What report and summary show of a VM that the configuration keeps apart from the others.
use Rattle.std.specs.Prelude.{◌≡◌, ℕ, List, All, slice_get}
use Rattle.bao_config.specs.Data.{ConfigData, VmData}
use Rattle.vm_model.specs.Flat.{FlatEvent, flat_run}
use Rattle.vm_model.specs.Boot.{boot}
use Rattle.vm_model.specs.Lone.{only, view, lone}
use Rattle.vm_model.specs.Apart.{IsApart, IsGranular}
use Rattle.vm_model.specs.Alone.{IsOfSchedule}
use Rattle.report.specs.Section.{section}
use Rattle.report.specs.Summary.{summary_at}

-- after every schedule the section of such a VM is the one of its own run
abbrev pub ShowsAsIfAlone : Type 0
ShowsAsIfAlone =
    (cfg : ConfigData) (images : List (List ℕ)) (events : List FlatEvent) (v : ℕ) (vm : VmData)
    → IsApart cfg images v vm → IsGranular cfg vm → All IsOfSchedule events
    → section cfg (flat_run cfg (boot cfg images) events) v ≡ section (only cfg v) (lone cfg images events v) 0

-- So two runs, be it of two configurations, show the same of a VM where they give it the same: its part of the configuration,
-- its image, and what it sees. Whatever else the others do differently, no byte of its section tells.
abbrev pub ShowsNothingElse : Type 0
ShowsNothingElse =
    (one other : ConfigData) (images others : List (List ℕ)) (events turns : List FlatEvent) (v w : ℕ) (vm wm : VmData)
    → IsApart one images v vm → IsApart other others w wm → IsGranular one vm → IsGranular other wm
    → All IsOfSchedule events → All IsOfSchedule turns
    → only one v ≡ only other w → slice_get images v ≡ slice_get others w
    → view one (boot one images) v events ≡ view other (boot other others) w turns
    → section one (flat_run one (boot one images) events) v ≡ section other (flat_run other (boot other others) turns) w

-- after every schedule the summary's line of such a VM is the one of its own run
abbrev pub SumsAsIfAlone : Type 0
SumsAsIfAlone =
    (cfg : ConfigData) (images : List (List ℕ)) (events : List FlatEvent) (v : ℕ) (vm : VmData)
    → IsApart cfg images v vm → All IsOfSchedule events
    → summary_at cfg (flat_run cfg (boot cfg images) events) v ≡ summary_at (only cfg v) (lone cfg images events v) 0
