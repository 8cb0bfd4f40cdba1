use Rattle.std.proofs.Common.{Option, Some, ◌≡◌, ◌↔◌, ◌∙◌, sym, ap, subst, ℕ, is_some, option_and_then, get_or}
use Rattle.bao_config.specs.Config.{config_data}
use Rattle.shared_windows.specs.Windows.{HearsBy, irq_in, irq_of}
use Rattle.shared_windows.proofs.Heard.{heard_by_one_number, heard_where_listed}
use Rattle.shared_windows.proofs.Views.{vm_at}
use Rattle.shared_windows.proofs.windows.irq_of.Goals as goal

value : (c : goal.After-irq_in) → c.irq_in.result ≡ irq_of (config_data c.args.config.now) c.args.vm c.args.shmem c.args.event
value c =
    let vms = c.args.config.now.vms.items in
    let vm = c.index.result.now in
    let is = subst (λ v. vm ≡ get_or vms v vm) c.from.ensures c.index.ensures in
    c.irq_in.ensures ∙ sym (ap (option_and_then (irq_in c.args.shmem c.args.event)) (vm_at vms c.args.vm vm c.requires.vm is))

pub returns-clause-value : goal.returns-clause-value
returns-clause-value c = value c

pub returns-clause-some : goal.returns-clause-some
returns-clause-some c =
    ap is_some (value c)
    ∙ heard_where_listed (config_data c.args.config.now) c.args.vm c.args.shmem c.args.event c.requires.sound c.requires.shmem

pub returns-clause-heard : goal.returns-clause-heard
returns-clause-heard c irq =
    let cfg = config_data c.args.config.now in
    subst (λ (answer : Option ℕ). (answer ≡ Some irq) ↔ HearsBy cfg c.args.vm c.args.shmem c.args.event irq) (sym (value c))
    (heard_by_one_number cfg c.args.vm c.args.shmem c.args.event irq c.requires.sound)
