use Rattle.std.proofs.Common.{◌≡◌, ℕ, zero, suc, ◌<◌, ◌%◌, ◌^◌, ap, sym, subst, ◌∙◌, arith}
use Rattle.bao_types.specs.Bits.{field}
use Rattle.bao_types.specs.Controller.{frame_size}
use Rattle.vgic_emul.specs.Registers.{core_of, offset_of}
use Rattle.vm_model.specs.Frames.{FrameAccess, width_of}
use Rattle.hypervisor.proofs.syndrome.frame_access.Goals as goal

-- what is a multiple of a width is so in a frame, whose base is a multiple of 64 KiB
multiple : (offset far k : ℕ) → k < 4 → offset % frame_size ≡ far % frame_size → far % 2 ^ k ≡ 0 → offset % 2 ^ k ≡ 0
multiple offset far zero low same whole = omega arith
multiple offset far (suc zero) low same whole = omega arith
multiple offset far (suc (suc zero)) low same whole = omega arith
multiple offset far (suc (suc (suc zero))) low same whole = omega arith
multiple offset far (suc (suc (suc (suc k)))) low same whole = absurd (omega arith)

pub returns-in-Some-clause-is : goal.returns-in-Some-clause-is
returns-in-Some-clause-is c =
    let far = c.args.far in let esr = c.args.esr in let place = c.in-Some.place in
    let width : c.described.result.width ≡ width_of esr = ap (λ (access : FrameAccess). access.width) c.described.ensures.value in
    let whole : far % width_of esr ≡ 0 =
    subst (λ w. far % w ≡ 0) (c.from.ensures ∙ c.width_of.ensures.value) c.if-far-from-ne0.false in
    let low : field esr 23 22 < 4 = omega arith in
    record {
      core = subst (λ p. core_of p < 8) (sym c.described.ensures.place) c.in-Some.ensures.core;
      aligned = subst (λ p. offset_of p % c.described.result.width ≡ 0) (sym c.described.ensures.place)
          (subst (λ w. offset_of place % w ≡ 0) (sym width)
          (multiple (offset_of place) far (field esr 23 22) low c.in-Some.ensures.offset whole));
      least = c.described.ensures.least;
      most = c.described.ensures.most;
      register = c.described.ensures.register;
    }
