use Rattle.std.proofs.Common.{◌≡◌, ◌<◌, ◌++◌, ◌∙◌, List, ℕ, length, get_or, map, subst, ap, arith}
use Rattle.bao_config.specs.declared.config.Vm.{Vm}
use Rattle.bao_config.specs.Data.{vm_data}
use Rattle.bao_config.specs.Fits.{VmFits}
use Rattle.bao_wellformed.specs.declared.claim.Claim.{Claim}
use Rattle.bao_wellformed.specs.Break.{indexed}
use Rattle.bao_wellformed.specs.Claims.{claims_of_vm, numbers_of}
use Rattle.bao_wellformed.proofs.Firsts.{one_joined}
use Rattle.bao_wellformed.proofs.Fits.{viewed_fits, few_numbers}
use Rattle.bao_wellformed.proofs.claim.claims.Goals as goal

pub push_claims-requires : goal.push_claims-requires
push_claims-requires c =
    let vms = c.deref-vm-items.ensures.value in
    let fits =
    viewed_fits VmFits vm_data c.args.config.now.vms.items c.loop-place.place c.vm-item.result
    (subst (λ (vms : List Vm). c.loop-place.place < length vms) vms c.loop-place-test.true)
    (subst (λ (vms : List Vm). c.vm-item.result ≡ get_or vms c.loop-place.place c.vm-item.result) vms c.vm-item.is) c.args.config.now.fits.vms.each in
    let few = few_numbers c.args.claimed (vm_data c.vm-item.result) fits in
    let same : length c.as_slice.result.now ≡ length (numbers_of c.args.claimed (vm_data c.vm-item.result)) =
    ap (λ (numbers : List ℕ). length numbers) (c.as_slice.ensures.value ∙ c.in_ok-numbers.ensures) in
    omega (arith, few, same)

pub loop-place-preserved : goal.loop-place-preserved
loop-place-preserved c =
    let vms = c.deref-vm-items.ensures.value in
    let claim : ℕ × ℕ → Claim = λ (j, number). record { vm = c.loop-place.place; item = j; number = number } in
    one_joined vm_data (claims_of_vm c.args.claimed) c.args.config.now.vms.items c.loop-place.place c.loop-place.place c.vm-item.result
    c.loop-place.all.items c.push_claims.new.all.items _
    (subst (λ (vms : List Vm). c.loop-place.place < length vms) vms c.loop-place-test.true)
    (subst (λ (vms : List Vm). c.vm-item.result ≡ get_or vms c.loop-place.place c.vm-item.result) vms c.vm-item.is) c.loop-place.invariant
    (c.in_ok-push_claims.ensures
    ∙ ap (λ (numbers : List ℕ). c.loop-place.all.items ++ map claim (indexed numbers)) (c.as_slice.ensures.value ∙ c.in_ok-numbers.ensures))
