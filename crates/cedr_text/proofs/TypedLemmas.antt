-- How a payload of given types is read field by field.
use Rattle.std.proofs.Common.{◌≡◌, List, [], ◌∷◌, Option, None, Some, Result, Ok, Err, refl, ap, append_assoc}
use Rattle.cedr_base.specs.declared.field.Field.{Field}
use Rattle.cedr_text.specs.declared.fault.LineFault.{LineFault}
use Rattle.cedr_text.specs.Reading.{with_field, onto, pushed}

-- a field at the end of what was read stands in front of what is to come
pub onto_next : (front : Option (List Field)) (field : Option Field) (rest : Result (Option (List Field)) LineFault) → onto (pushed front field) rest ≡ onto front (with_field field rest)
onto_next None None (Err fault) = refl
onto_next None None (Ok None) = refl
onto_next None None (Ok (Some fields)) = refl
onto_next None (Some f) (Err fault) = refl
onto_next None (Some f) (Ok None) = refl
onto_next None (Some f) (Ok (Some fields)) = refl
onto_next (Some front) None (Err fault) = refl
onto_next (Some front) None (Ok None) = refl
onto_next (Some front) None (Ok (Some fields)) = refl
onto_next (Some front) (Some f) (Err fault) = refl
onto_next (Some front) (Some f) (Ok None) = refl
onto_next (Some front) (Some f) (Ok (Some fields)) = ap (λ fs. Ok (Some fs)) (append_assoc front (f ∷ []) fields)
