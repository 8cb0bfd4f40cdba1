use Rattle.std.proofs.Common.{◌≡◌, ◌<◌, ◌+◌, ◌*◌, [], ◌∷◌, ◌++◌, map, rules, true, ap, ◌∙◌, arith}
use Rattle.std.specs.Prelude.{codes}
use Rattle.std.specs.Fmt.{decimal}
use Rattle.std.proofs.lemmas.Fmt.{decimal_digit}
use Rattle.bao_config.specs.Data.{ipc_data}
use Rattle.schedule.proofs.workload_config.make_vm.Goals as goal

pub returns : goal.returns
returns c =
    let low : c.args.v < 10 = omega (arith, c.requires) in
    let digit : decimal c.args.v ≡ (48 + c.args.v) ∷ [] = decimal_digit c.args.v low in
    let cores : c.push.new.self.items ≡ c.args.v ∷ [] = search rules in
    let regions : c.push-2.new.self.items
    ≡ record { range = record { base = 0x100000 * (c.args.v + 1); size = 0x10000 }; write = true; exec = true } ∷ [] = search rules in
    let devs : c.push-3.new.self.items ≡ record { port = c.args.v; irq = 40 } ∷ [] = search rules in
    λ t. record {
      name = (c.new.ensures ∙ c.in_ok-name.ensures.ok ∙ ap (λ text. codes "g" ++ text) digit) t;
      image = (c.new-2.ensures ∙ c.in_ok-image.ensures.ok ∙ ap (λ text. codes "g" ++ (text ++ codes ".bin")) digit) t;
      place = record { base = 0x100000 * (c.from.ensures t + 1); size = 0x1000 };
      start = 0x100000 * (c.from.ensures t + 1);
      cores = cores t;
      regions = regions t;
      devs = devs t;
      ipcs = map ipc_data (c.new-3.ensures t);
      guards = c.new-4.ensures t;
    }
