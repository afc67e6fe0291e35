pub use Rattle.c_typed.specs.c_typed_check as c_typed_check
