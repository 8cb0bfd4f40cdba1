-- In a well-formed configuration each rule by itself has no break.
use Rattle.std.proofs.Common.{◌≡◌, [], ◌++◌}
use Rattle.bao_config.specs.Data.{ConfigData}
use Rattle.bao_wellformed.specs.Rules.{rule_1, rule_2, rule_3, rule_4, rule_5, rule_6, rule_7, rule_8, rule_9, rule_10, rule_11, rule_12, rule_13, rule_14, rule_15, rule_16, rule_17, rule_18, rule_19}
use Rattle.bao_wellformed.specs.ByteRules.{rule_20, rule_21, rule_22}
use Rattle.bao_wellformed.specs.WellFormed.{IsWellFormed, breaks, platform_breaks, memory_breaks, vm_breaks, device_breaks, byte_breaks}
use Rattle.bao_wellformed.proofs.Empty.{left_empty, right_empty}

pub record IsKept (cfg : ConfigData) : Type 0 where
  pub r1 : rule_1 cfg ≡ []
  pub r2 : rule_2 cfg ≡ []
  pub r3 : rule_3 cfg ≡ []
  pub r4 : rule_4 cfg ≡ []
  pub r5 : rule_5 cfg ≡ []
  pub r6 : rule_6 cfg ≡ []
  pub r7 : rule_7 cfg ≡ []
  pub r8 : rule_8 cfg ≡ []
  pub r9 : rule_9 cfg ≡ []
  pub r10 : rule_10 cfg ≡ []
  pub r11 : rule_11 cfg ≡ []
  pub r12 : rule_12 cfg ≡ []
  pub r13 : rule_13 cfg ≡ []
  pub r14 : rule_14 cfg ≡ []
  pub r15 : rule_15 cfg ≡ []
  pub r16 : rule_16 cfg ≡ []
  pub r17 : rule_17 cfg ≡ []
  pub r18 : rule_18 cfg ≡ []
  pub r19 : rule_19 cfg ≡ []
  pub r20 : rule_20 cfg ≡ []
  pub r21 : rule_21 cfg ≡ []
  pub r22 : rule_22 cfg ≡ []

module _ (cfg : ConfigData) (well_formed : IsWellFormed cfg) where
  all_parts : platform_breaks cfg ++ (memory_breaks cfg ++ (vm_breaks cfg ++ (device_breaks cfg ++ byte_breaks cfg))) ≡ []
  unfolding breaks
  all_parts = well_formed

  platform_part : platform_breaks cfg ≡ []
  platform_part = left_empty (platform_breaks cfg) _ all_parts

  behind_platform : memory_breaks cfg ++ (vm_breaks cfg ++ (device_breaks cfg ++ byte_breaks cfg)) ≡ []
  behind_platform = right_empty (platform_breaks cfg) _ all_parts

  memory_part : memory_breaks cfg ≡ []
  memory_part = left_empty (memory_breaks cfg) _ behind_platform

  behind_memory : vm_breaks cfg ++ (device_breaks cfg ++ byte_breaks cfg) ≡ []
  behind_memory = right_empty (memory_breaks cfg) _ behind_platform

  vm_part : vm_breaks cfg ≡ []
  vm_part = left_empty (vm_breaks cfg) _ behind_memory

  behind_vm : device_breaks cfg ++ byte_breaks cfg ≡ []
  behind_vm = right_empty (vm_breaks cfg) _ behind_memory

  device_part : device_breaks cfg ≡ []
  device_part = left_empty (device_breaks cfg) _ behind_vm

  byte_part : byte_breaks cfg ≡ []
  byte_part = right_empty (device_breaks cfg) _ behind_vm

  pub kept : IsKept cfg
  kept =
      let a = right_empty (rule_1 cfg) _ platform_part in
      let b = right_empty (rule_2 cfg) _ a in
      let c = right_empty (rule_5 cfg) _ memory_part in
      let d = right_empty (rule_6 cfg) _ c in
      let e = right_empty (rule_9 cfg) _ vm_part in
      let f = right_empty (rule_10 cfg) _ e in
      let g = right_empty (rule_11 cfg) _ f in
      let h = right_empty (rule_14 cfg) _ device_part in
      let i = right_empty (rule_15 cfg) _ h in
      let j = right_empty (rule_16 cfg) _ i in
      let k = right_empty (rule_17 cfg) _ j in
      let l = right_empty (rule_20 cfg) _ byte_part in
      record {
        r1 = left_empty (rule_1 cfg) _ platform_part;
        r2 = left_empty (rule_2 cfg) _ a;
        r3 = left_empty (rule_3 cfg) _ b;
        r4 = right_empty (rule_3 cfg) _ b;
        r5 = left_empty (rule_5 cfg) _ memory_part;
        r6 = left_empty (rule_6 cfg) _ c;
        r7 = left_empty (rule_7 cfg) _ d;
        r8 = right_empty (rule_7 cfg) _ d;
        r9 = left_empty (rule_9 cfg) _ vm_part;
        r10 = left_empty (rule_10 cfg) _ e;
        r11 = left_empty (rule_11 cfg) _ f;
        r12 = left_empty (rule_12 cfg) _ g;
        r13 = right_empty (rule_12 cfg) _ g;
        r14 = left_empty (rule_14 cfg) _ device_part;
        r15 = left_empty (rule_15 cfg) _ h;
        r16 = left_empty (rule_16 cfg) _ i;
        r17 = left_empty (rule_17 cfg) _ j;
        r18 = left_empty (rule_18 cfg) _ k;
        r19 = right_empty (rule_18 cfg) _ k;
        r20 = left_empty (rule_20 cfg) _ byte_part;
        r21 = left_empty (rule_21 cfg) _ l;
        r22 = right_empty (rule_21 cfg) _ l;
      }
