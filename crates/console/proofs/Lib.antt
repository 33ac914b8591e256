mod Headed
mod Going
