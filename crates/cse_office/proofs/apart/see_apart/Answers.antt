use Rattle.std.proofs.Common.{sym, subst, ap, ◌∙◌, arith, List, length}
use Rattle.cse_files.specs.declared.clashing.Named.{Named}
use Rattle.cse_office.specs.Apart.{AreOf}
use Rattle.cse_office.proofs.ApartLaws.{as_many}
use Rattle.cse_office.proofs.apart.see_apart.Goals as goal

pub role_at-requires : goal.role_at-requires
role_at-requires g c =
    let are = subst (λ (f : List Named). AreOf c.args.uses.now f) (sym c.deref.ensures.value) c.in-Ok.ensures in
    let many = as_many c.args.uses.now c.deref.result.now are in
    omega (arith, many, c.in-Some.ensures.within.0, c.in-Some.ensures.within.1)

pub role_at-requires-in-Some : goal.role_at-requires-in-Some
role_at-requires-in-Some g c =
    let are = subst (λ (f : List Named). AreOf c.args.uses.now f) (sym c.deref.ensures.value) c.in-Ok.ensures in
    let many = as_many c.args.uses.now c.deref.result.now are in
    omega (arith, many, c.in-Some.ensures.within.0, c.in-Some.ensures.within.1)

pub returns-in-Some-clause-one_file : goal.returns-in-Some-clause-one_file
returns-in-Some-clause-one_file g c = record {
  files = c.deref.result.now;
  are = subst (λ (f : List Named). AreOf c.args.uses.now f) (sym c.deref.ensures.value) c.in-Ok.ensures;
  earlier = c.in-Some.earlier;
  later = c.in-Some.later;
  clash = c.in-Some.ensures.clash;
  first_is = c.role_at.ensures;
  second_is = c.role_at-in-Some.ensures;
}

pub returns-in_default-clause-one_file : goal.returns-in_default-clause-one_file
returns-in_default-clause-one_file g c = c.of_memory.ensures c.args.uses.now

pub returns-clause-apart : goal.returns-clause-apart
returns-clause-apart g c = record {
  files = c.deref.result.now;
  are = subst (λ (f : List Named). AreOf c.args.uses.now f) (sym c.deref.ensures.value) c.in-Ok.ensures;
  none = c.in-None.ensures.none;
}
