-- WALK by what it reads: laws of crate `laws_walk`, and the examples, by the rules that make each.
-- Assumes nothing.
use mathlib.Core.Path.{refl}
use mathlib.Core.List.{[], ◌∷◌}
use native.Mathlib.Omega.{arith}
use Rattle.template_walk.specs.declared.Fault.TheVariants.{Malformed, TooDeep}
use Rattle.laws_walk.specs.Trees.{none, leaf, template}
use Rattle.laws_walk.specs.Faults.{over, deep, inside, after}
use Rattle.laws_walk.proofs.TreeFacts.{encode_one, octets-encode, encode-octets}
use Rattle.laws_walk.proofs.Walking.{taken, malformed, too-deep, one-case, not-both, one-fault, fault-place, fault-tag, fault-of, walk-fault, told-fault, offset-none}
use Rattle.laws_walk.proofs.Answers.{encodes-pre-initialised, encodes-application-info, encodes-status, encodes-signature, encodes-exported-public, encodes-exported-pair}
use Rattle.claims.specs.WalkReads.{WalkTakes, WalkFaults, WalkAnswers, WalkExamples, WalkReads}

takes : WalkTakes
takes = record {
  taken = taken;
  onelist = encode_one;
  bytes = λ ts l. (encode-octets ts, octets-encode ts l);
}

refuses : WalkFaults
refuses = record {
  malformed = malformed;
  toodeep = too-deep;
  onecase = one-case;
  apart = not-both;
  oneplace = one-fault;
  malformedat = λ s k. told-fault s Malformed k;
  toodeepat = λ s k. told-fault s TooDeep k;
  nooffset = offset-none;
  place = λ s f k. (fault-of s f k, walk-fault s f k);
  atbyte = λ s f k x. fault-place x;
  attemplate = λ s k x. fault-tag x refl;
}

answers : WalkAnswers
answers = record {
  preinitialised = encodes-pre-initialised;
  application = encodes-application-info;
  status = encodes-status;
  signature = encodes-signature;
  exportedpublic = encodes-exported-public;
  exportedpair = encodes-exported-pair;
}

examples : WalkExamples
examples = record {
  pastparent =
      after {d = 1} (leaf 0x80 (0xFF ∷ []) none) (0xA1 ∷ 0x03 ∷ 0x80 ∷ 0x03 ∷ 0x00 ∷ 0x80 ∷ 0x00 ∷ []) (refl, omega arith, tt) tt
      (inside {d = 1} 0xA1 (0x80 ∷ 0x03 ∷ 0x00 ∷ []) (0x80 ∷ 0x00 ∷ []) (omega arith) refl (omega arith)
      (over {d = 2} 0x80 3 (0x00 ∷ []) (omega arith) (omega arith)));
  fifth =
      inside {d = 1} 0xA1 (0xA1 ∷ 0x06 ∷ 0xA1 ∷ 0x04 ∷ 0xA1 ∷ 0x02 ∷ 0xA1 ∷ 0x00 ∷ []) [] (omega arith) refl (omega arith)
      (inside {d = 2} 0xA1 (0xA1 ∷ 0x04 ∷ 0xA1 ∷ 0x02 ∷ 0xA1 ∷ 0x00 ∷ []) [] (omega arith) refl (omega arith)
      (inside {d = 3} 0xA1 (0xA1 ∷ 0x02 ∷ 0xA1 ∷ 0x00 ∷ []) [] (omega arith) refl (omega arith)
      (inside {d = 4} 0xA1 (0xA1 ∷ 0x00 ∷ []) [] (omega arith) refl (omega arith)
      (deep {d = 5} 0xA1 [] [] (omega arith) refl (omega arith)))));
  leaffive = (
    template 0xA1 (template 0xA1 (template 0xA1 (template 0xA1 (leaf 0x80 [] none) none) none) none) none,
    record {
      lawful =
          (refl, omega arith, (refl, omega arith, (refl, omega arith, (refl, omega arith, (refl, omega arith, tt), tt), tt), tt), tt);
      shallow = (omega arith, (omega arith, (omega arith, (omega arith, tt, tt), tt), tt), tt);
      encoded = refl;
      counted = refl;
    },
  );
}

pub walk-reads : WalkReads
walk-reads = record { takes = takes; faults = refuses; answers = answers; examples = examples }
